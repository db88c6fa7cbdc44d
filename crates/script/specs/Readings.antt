-- What a line of a script says. Assumes nothing.
--   told c        an order, where the code has a command
--   reading bs    what the line bs says: nothing, an order, or a mistake in its place
use Rattle.std.specs.Prelude.{ℕ, cond, List, None, Some, Ok, Option, Result, option_map}
use Rattle.script.specs.declared.command.Command.{Command}
use Rattle.script.specs.declared.mistake.Mistake.{Mistake}
use Rattle.script.specs.Words.{words}
use Rattle.script.specs.Arguments.{given}
use Rattle.script.specs.Orders.{Order, order_of, order_on, silent}

abbrev pub told : Option Command → Option Order
told c = option_map order_of c

abbrev pub reading : List ℕ → Result (Option Order) Mistake
reading bs = cond (silent (words bs)) (Ok None) (given (order_on (words bs)) (λ o. Ok (Some o)))
