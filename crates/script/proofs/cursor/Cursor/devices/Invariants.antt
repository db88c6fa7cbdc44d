use Rattle.std.proofs.Common.{◌≡◌, ◌+◌, ◌-◌, length, vec_items}
use Rattle.script.specs.Cursors.{texts}
use Rattle.script.proofs.Devices.{ReadTo}
use Rattle.script.proofs.cursor.Cursor.devices.Given as goal

abbrev pub invariant-loop-self : goal.invariant-loop-self
invariant-loop-self l = ReadTo (texts l.fn.self) l.fn.self.place l.self.place (vec_items l.devices) × (texts l.self ≡ texts l.fn.self)

abbrev pub decreases-loop-self : goal.decreases-loop-self
decreases-loop-self l = length (texts l.self) + 1 - l.self.place
