-- What a sheet's first bytes say of the whole. Assumes nothing.
--   FirstFault   a sheet of more than 2,048 bytes has a fault, and its first 2,048 bytes have the same
use Rattle.std.specs.Prelude.{◌≡◌, ℕ, ◌<◌, List, length, take, Err}
use Rattle.houses.specs.Sheets.{meaning}
use Rattle.houses.specs.declared.misread.Misread.{Misread}

abbrev pub FirstFault : Type 0
FirstFault = (bs : List ℕ) → 2048 < length bs → (f : Misread) × (meaning bs ≡ Err f) × (meaning (take 2048 bs) ≡ Err f)
