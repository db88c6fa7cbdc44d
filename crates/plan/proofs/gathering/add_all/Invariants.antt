use Rattle.std.proofs.Common.{◌≡◌, ◌++◌, map, take}
use Rattle.cuts.specs.Rigs.{rig_cables}
use Rattle.plan.proofs.gathering.add_all.Given as goal

abbrev pub invariant-loop-record : goal.invariant-loop-record
invariant-loop-record g l = rig_cables l.rig ≡ rig_cables l.initial.rig ++ map g.R.Record.held (take l.record-index l.records)
