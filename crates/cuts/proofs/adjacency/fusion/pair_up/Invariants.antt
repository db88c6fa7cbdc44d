use Rattle.std.proofs.Common.{length}
use Rattle.cuts.specs.Links.{label}
use Rattle.cuts.proofs.Pairing.{Pairing}
use Rattle.cuts.proofs.adjacency.fusion.pair_up.Given as goal

abbrev pub invariant-loop-l : goal.invariant-loop-l
invariant-loop-l l = Pairing (label l.phase.groups.now.labels) l.phase.links.now.list.items (length l.phase.groups.now.reps.items) l.phase.best l.to l.used
