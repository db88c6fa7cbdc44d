-- Marks as grades. Assumes nothing.
use Rattle.std.proofs.lemmas.Bool.{leb-true, le-leb}
use Rattle.forest.specs.Marks.{StrongReaches}

pub strong_reaches : StrongReaches
strong_reaches cs mark k c = ((λ (i, st, r). (i, st, leb-true k (mark i) r)), (λ (i, st, h). (i, st, le-leb k (mark i) h)))
