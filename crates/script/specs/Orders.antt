-- The commands, and how each is read from the words of its line. Assumes nothing.
--   Order                a command, with lists where the code has vectors
--   claimed c            the order to judge that claim
--   order_of c           the order that a command of the code is
--   wide_at ws n         the word n as a number of at most 65535
--   byte_at ws n         the word n as a number of at most 255
--   run_at ws n          the words from n as a run: its medium and its length
--   cable_at ws n        the words from n as a cable: its two ends and its run
--   tour_cable_at ws n   the words from n as a cable of a tour: the tag of its drum and the cable
--   claim_at ws n        the words from n to the last as a claim: a strength, a cut sheet and devices
--   ending ws n o        the order o, unless a word n is left over
--   order verb ws        the order of a line of the words ws, the first of which names the verb
--   order_on ws          the order of a line of the words ws
--   silent ws            there is no word, or the first begins with `#`
use Rattle.std.specs.Prelude.{ℕ, ◌+◌, Bool, true, List, [], ◌∷◌, Ok, vec_items, Result, ◌==◌, slice_index}
use Rattle.script.specs.declared.command.Claim.{Claim}
use Rattle.script.specs.declared.command.Command.{Command}
use Rattle.script.specs.declared.command.Command.TheVariants as code
use Rattle.network.specs.declared.cable.Cable.{Cable}
use Rattle.network.specs.declared.cable.Run.{Run}
use Rattle.network.specs.declared.cable.TourCable.{TourCable}
use Rattle.script.specs.declared.command.Yardstick.{Yardstick}
use Rattle.script.specs.declared.mistake.Mistake.{Mistake}
use Rattle.script.specs.declared.verb.Verb.{Verb}
use Rattle.script.specs.declared.verb.Verb.TheVariants as name
use Rattle.script.specs.Numerals.{number, hex}
use Rattle.script.specs.Arguments.{given, read_at, verb, medium, yardstick, devices_from, end_at}

pub data Order : Type 0 where
  house : List ℕ → Order
  shift : ℕ → Order
  begin : Order
  lay : TourCable → Order
  lift : ℕ → Order
  close : Order
  reopen : Order
  mark : ℕ → Order
  strength : List ℕ → Order
  group : List ℕ → Order
  run : Yardstick → List ℕ → Order
  cut : List ℕ → Order
  judge : ℕ → List ℕ → List ℕ → Order

abbrev pub claimed : Claim → Order
claimed c = judge c.k (vec_items c.sheet) (vec_items c.list)

abbrev pub order_of : Command → Order
order_of (code.House sheet) = house (vec_items sheet)
order_of (code.Shift s) = shift s
order_of code.Begin = begin
order_of (code.Lay l) = lay l
order_of (code.Lift tag) = lift tag
order_of code.Close = close
order_of code.Reopen = reopen
order_of (code.Mark place) = mark place
order_of (code.Strength ds) = strength (vec_items ds)
order_of (code.Group ds) = group (vec_items ds)
order_of (code.Run y ds) = run y (vec_items ds)
order_of (code.Cut ds) = cut (vec_items ds)
order_of (code.Judge c) = claimed c

abbrev pub wide_at : List (List ℕ) → ℕ → Result ℕ Mistake
wide_at ws n = read_at (number 65535) ws n

abbrev pub byte_at : List (List ℕ) → ℕ → Result ℕ Mistake
byte_at ws n = read_at (number 255) ws n

abbrev pub run_at : List (List ℕ) → ℕ → Result Run Mistake
run_at ws n = given (read_at medium ws n) (λ m. given (wide_at ws (n + 1)) (λ l. Ok (record { medium = m; length = l })))

abbrev pub cable_at : List (List ℕ) → ℕ → Result Cable Mistake
cable_at ws n = given (byte_at ws n) (λ a. given (byte_at ws (n + 1)) (λ b. given (run_at ws (n + 2)) (λ r. Ok (record { a = a; b = b; run = r }))))

abbrev pub tour_cable_at : List (List ℕ) → ℕ → Result TourCable Mistake
tour_cable_at ws n = given (wide_at ws n) (λ tag. given (cable_at ws (n + 1)) (λ c. Ok (record { tag = tag; cable = c })))

abbrev pub claim_at : List (List ℕ) → ℕ → Result Order Mistake
claim_at ws n = given (wide_at ws n) (λ k. given (read_at hex ws (n + 1)) (λ sheet. given (devices_from ws (n + 2)) (λ ds. Ok (judge k sheet ds))))

abbrev pub ending : List (List ℕ) → ℕ → Order → Result Order Mistake
ending ws n o = given (end_at ws n) (λ _. Ok o)

abbrev pub order : Verb → List (List ℕ) → Result Order Mistake
order name.House ws = given (read_at hex ws 2) (λ sheet. ending ws 3 (house sheet))
order name.Shift ws = given (byte_at ws 2) (λ s. ending ws 3 (shift s))
order name.Begin ws = ending ws 2 begin
order name.Lay ws = given (tour_cable_at ws 2) (λ c. ending ws 7 (lay c))
order name.Lift ws = given (wide_at ws 2) (λ tag. ending ws 3 (lift tag))
order name.Close ws = ending ws 2 close
order name.Reopen ws = ending ws 2 reopen
order name.Mark ws = given (wide_at ws 2) (λ place. ending ws 3 (mark place))
order name.Strength ws = given (devices_from ws 2) (λ ds. Ok (strength ds))
order name.Group ws = given (devices_from ws 2) (λ ds. Ok (group ds))
order name.Run ws = given (read_at yardstick ws 2) (λ y. given (devices_from ws 3) (λ ds. Ok (run y ds)))
order name.Cut ws = given (devices_from ws 2) (λ ds. Ok (cut ds))
order name.Judge ws = claim_at ws 2

abbrev pub order_on : List (List ℕ) → Result Order Mistake
order_on ws = given (read_at verb ws 1) (λ v. order v ws)

abbrev pub silent : List (List ℕ) → Bool
silent [] = true
silent (w ∷ ws) = slice_index w 0 == 35
