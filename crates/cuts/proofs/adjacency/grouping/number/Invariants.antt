use Rattle.std.proofs.Common.{length}
use Rattle.cuts.specs.Links.{flagged}
use Rattle.cuts.proofs.Numbering.{Numbering}
use Rattle.cuts.proofs.adjacency.grouping.number.Given as goal

abbrev pub invariant-loop-d : goal.invariant-loop-d
invariant-loop-d l = Numbering (flagged l.inside) l.d l.labels l.reps.items (length l.reps.items)
