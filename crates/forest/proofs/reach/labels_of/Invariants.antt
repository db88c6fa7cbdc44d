use Rattle.forest.specs.Labels.{Labelled}
use Rattle.forest.specs.Forests.{ReachingUpTo}
use Rattle.forest.proofs.reach.labels_of.Given as goal

abbrev pub invariant-loop-place : goal.invariant-loop-place
invariant-loop-place g l = Labelled l.labels (ReachingUpTo g.E.Grade.Grade.over (g.E.Graded.cables l.edges) (g.E.Graded.grade l.edges) l.floor l.place)
