-- What a set of devices holds. Assumes nothing.
--   set_of s    the set as a test on device numbers
use Rattle.std.specs.Prelude.{ℕ, Bool, false, slice_index_or}
use Rattle.cuts.specs.declared.devices.Devices.{Devices}

abbrev pub set_of : Devices → ℕ → Bool
set_of s d = slice_index_or s.flags d false
