-- How a mistake is put in words. Assumes nothing.
--   said fault    what is said of a word with that fault
use Rattle.std.specs.Prelude.{ℕ, List, codes}
use Rattle.script.specs.declared.mistake.Fault.{Fault}
use Rattle.script.specs.declared.mistake.Fault.TheVariants.{UnknownCommand, MissingWord, ExtraWord, NotANumber, NumberTooLarge, NotHexadecimal, NotAMedium, NotAYardstick}

abbrev pub said : Fault → List ℕ
said UnknownCommand = codes "is no command"
said MissingWord = codes "is missing"
said ExtraWord = codes "is one too many"
said NotANumber = codes "is not a number"
said NumberTooLarge = codes "is too large a number"
said NotHexadecimal = codes "is not hexadecimal"
said NotAMedium = codes "is neither copper nor fibre"
said NotAYardstick = codes "is neither plain nor length"
