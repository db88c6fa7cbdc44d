use Rattle.std.proofs.Common.{◌≡◌, length}
use Rattle.cuts.specs.Members.{set_of}
use Rattle.cuts.specs.Rigs.{rig_cables}
use Rattle.marks.specs.State.{number}
use Rattle.cutsheets.proofs.Cores.{Core}
use Rattle.cutsheets.proofs.own_sheet.Given as goal

abbrev pub invariant-loop-core : goal.invariant-loop-core
invariant-loop-core g l = (length l.sheet.parts ≡ 128) × Core (rig_cables l.rig) (set_of l.devices) l.sheet.strength (number l.sheet.parts) l.core
