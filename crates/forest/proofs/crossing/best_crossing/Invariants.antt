use Rattle.std.proofs.Common.{◌+◌, ◌-◌, length}
use Rattle.forest.specs.Crossings.{Crosses}
use Rattle.forest.proofs.crossing.best_crossing.Given as goal

abbrev pub invariant-loop-found : goal.invariant-loop-found
invariant-loop-found g l = Crosses g.E.Grade.Grade.over (g.E.Graded.cables l.edges) (g.E.Graded.grade l.edges) l.labels (l.best.place + 1) l.best

abbrev pub decreases-loop-found : goal.decreases-loop-found
decreases-loop-found g l = length (g.E.Graded.cables l.edges) - l.best.place
