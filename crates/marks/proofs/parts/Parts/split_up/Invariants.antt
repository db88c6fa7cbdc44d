use Rattle.std.proofs.Common.{◌-◌}
use Rattle.cuts.specs.Members.{set_of}
use Rattle.cuts.specs.Rigs.{rig_cables}
use Rattle.marks.specs.State.{number, Holds, SplitUp}
use Rattle.marks.proofs.parts.Parts.split_up.Given as goal

abbrev pub invariant-loop-cut : goal.invariant-loop-cut
invariant-loop-cut g l = SplitUp (rig_cables l.rig) l.self l.p × Holds (number l.self.part) l.p (set_of l.set)

abbrev pub decreases-loop-cut : goal.decreases-loop-cut
decreases-loop-cut g l = 128 - l.self.count
