use Rattle.std.proofs.Common.{◌-◌}
use Rattle.forest.specs.Forests.{place_of}
use Rattle.forest.proofs.Growths.{Grown}
use Rattle.forest.proofs.growth.grow.Given as goal

abbrev pub invariant-loop-best : goal.invariant-loop-best
invariant-loop-best g l = Grown g.E.Grade.Grade.over (g.E.Graded.cables l.edges) (g.E.Graded.grade l.edges) (place_of l.forest) l.forest.count l.labels

abbrev pub decreases-loop-best : goal.decreases-loop-best
decreases-loop-best g l = 127 - l.forest.count
