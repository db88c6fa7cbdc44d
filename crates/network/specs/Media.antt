-- The words for media, and their bytes. Assumes nothing.
--   medium_name m     `copper` or `fibre`
--   medium_named w    the medium of that name
--   medium_coded b    the medium of a byte: 0 for copper, 1 for fibre
use Rattle.std.specs.Prelude.{ℕ, cond, List, Ok, Err, codes, Result, ◌==◌}
use Rattle.std.specs.Str.{bytes_eq}
use Rattle.network.specs.declared.cable.Medium.{Medium}
use Rattle.network.specs.declared.cable.Medium.TheVariants.{Copper, Fibre}
use Rattle.network.specs.declared.media.UnknownMedium.{UnknownMedium}

abbrev pub medium_name : Medium → List ℕ
medium_name Copper = codes "copper"
medium_name Fibre = codes "fibre"

abbrev pub medium_named : List ℕ → Result Medium UnknownMedium
medium_named w = cond (bytes_eq w (medium_name Copper)) (Ok Copper) (cond (bytes_eq w (medium_name Fibre)) (Ok Fibre) (Err (record {})))

abbrev pub medium_coded : ℕ → Result Medium UnknownMedium
medium_coded b = cond (b == 0) (Ok Copper) (cond (b == 1) (Ok Fibre) (Err (record {})))
