use Rattle.std.proofs.Common.{◌≡◌, ◌-◌, ◌≤◌, length, take}
use Rattle.cuts.specs.Rigs.{rig_cables}
use Rattle.plan.proofs.gathering.house_rig.Given as goal

abbrev pub invariant-loop-cable : goal.invariant-loop-cable
invariant-loop-cable g l = (rig_cables l.rig ≡ take (length (rig_cables l.rig)) (g.H.House.cables l.house)) × (length (rig_cables l.rig) ≤ length (g.H.House.cables l.house))

abbrev pub decreases-loop-cable : goal.decreases-loop-cable
decreases-loop-cable g l = length (g.H.House.cables l.house) - length (rig_cables l.rig)
