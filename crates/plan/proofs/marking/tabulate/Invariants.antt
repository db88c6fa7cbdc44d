use Rattle.std.proofs.Common.{◌≡◌, take}
use Rattle.cuts.specs.Rigs.{rig_cables}
use Rattle.marks.specs.State.{number}
use Rattle.plan.specs.Rows.{mark_rows}
use Rattle.plan.proofs.marking.tabulate.Given as goal

abbrev pub invariant-loop-place : goal.invariant-loop-place
invariant-loop-place l = l.rows.items ≡ take l.place (mark_rows (number l.marks) (rig_cables l.rig))
