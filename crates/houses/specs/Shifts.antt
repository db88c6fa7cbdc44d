-- What a shift makes of a cable. Assumes nothing.
--   shifted by c   the cable with each end moved up by `by`, modulo 128, and nothing else changed
use Rattle.std.specs.Prelude.{ℕ, ◌+◌, ◌%◌}
use Rattle.network.specs.declared.cable.Cable.{Cable}

abbrev pub shifted : ℕ → Cable → Cable
shifted by c = record { a = (c.a + by) % 128; b = (c.b + by) % 128; run = c.run }
