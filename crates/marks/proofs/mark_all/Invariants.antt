use Rattle.cuts.specs.Rigs.{rig_cables}
use Rattle.marks.specs.State.{SplitUp}
use Rattle.marks.proofs.mark_all.Given as goal

abbrev pub invariant-loop-p : goal.invariant-loop-p
invariant-loop-p g l = SplitUp (rig_cables l.rig) l.parts l.p
