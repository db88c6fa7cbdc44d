-- The cut sheets that are judged. Assumes nothing.
--   one_part       all devices in part 0
--   twenty_alone   device 20 in part 1, and the rest in part 0
use Rattle.std.specs.Prelude.{ℕ, List, replicate, slice_set}

abbrev pub one_part : List ℕ
one_part = replicate 128 0

abbrev pub twenty_alone : List ℕ
twenty_alone = slice_set one_part 20 1
