-- Marks as grades. Assumes nothing.
--   StrongReaches    a cable stands at a place whose mark reaches k exactly when that mark is k or more
use Rattle.std.specs.Prelude.{ℕ, ◌↔◌, List, nat_le}
use Rattle.network.specs.declared.cable.Cable.{Cable}
use Rattle.network.specs.Marks.{Strong}
use Rattle.forest.specs.Places.{Reaching}

abbrev pub StrongReaches : Type 0
StrongReaches = (cs : List Cable) (mark : ℕ → ℕ) (k : ℕ) (c : Cable) → Reaching (λ a b. nat_le b a) cs mark k c ↔ Strong cs mark k c
