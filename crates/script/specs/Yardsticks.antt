-- The words for yardsticks. Assumes nothing.
--   yardstick_named w    the yardstick of that name: `plain` or `length`
use Rattle.std.specs.Prelude.{ℕ, cond, List, Ok, Err, codes, Result}
use Rattle.std.specs.Str.{bytes_eq}
use Rattle.script.specs.declared.command.Yardstick.{Yardstick}
use Rattle.script.specs.declared.command.Yardstick.TheVariants.{Plain, Length}
use Rattle.script.specs.declared.yardstick.UnknownYardstick.{UnknownYardstick}

abbrev pub yardstick_named : List ℕ → Result Yardstick UnknownYardstick
yardstick_named w = cond (bytes_eq w (codes "plain")) (Ok Plain) (cond (bytes_eq w (codes "length")) (Ok Length) (Err (record {})))
