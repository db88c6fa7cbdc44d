-- The words of a line, each read as what a command takes at that place. Places are counted from 1. Assumes nothing.
--   wrong n fault        the mistake of the word n
--   given s then         `then` of what s read; a mistake stays
--   present n w          the word n where there is one, else that it is missing
--   word_at ws n         the word n of ws, or that it is missing
--   blamed n s           a fault becomes the mistake of the word n
--   read_at read ws n    the word n as `read` reads it
--   faulted fault s      what s read; any error becomes the fault
--   verb w               the name of a command
--   medium w             `copper` or `fibre`
--   yardstick w          `plain` or `length`
--   devices n ws         the numbers of devices that the words ws write, the first of which is the word n
--   devices_from ws n    those from the word n of ws to the last
--   end_at ws n          that there is no word n
--   stop_at n fault      the same mistake as the code's reason to stop
--   same x               x
--   Reads f r s          the code's r is what s says, seen through f, unless memory ran out
use Rattle.std.specs.Prelude.{◌≡◌, ℕ, ◌+◌, ◌-◌, cond, List, [], ◌∷◌, length, drop, Some, None, Ok, Err, Option, Result, nat_le}
use Rattle.std.specs.List.{slice_get}
use Rattle.network.specs.declared.cable.Medium.{Medium}
use Rattle.network.specs.Media.{medium_named}
use Rattle.script.specs.declared.command.Yardstick.{Yardstick}
use Rattle.script.specs.Yardsticks.{yardstick_named}
use Rattle.script.specs.declared.mistake.Fault.{Fault}
use Rattle.script.specs.declared.mistake.Fault.TheVariants.{UnknownCommand, MissingWord, ExtraWord, NotAMedium, NotAYardstick}
use Rattle.script.specs.declared.mistake.Mistake.{Mistake}
use Rattle.script.specs.declared.stop.Stop.{Stop}
use Rattle.script.specs.declared.stop.Stop.TheVariants as stop
use Rattle.script.specs.declared.verb.Verb.{Verb}
use Rattle.script.specs.Numerals.{number}
use Rattle.script.specs.Verbs.{verb_named}

abbrev pub same : {A : Type 0} → A → A
same x = x

abbrev pub wrong : {A : Type 0} → ℕ → Fault → Result A Mistake
wrong n fault = Err (record { word = n; fault = fault })

abbrev pub given : {A B : Type 0} → Result A Mistake → (A → Result B Mistake) → Result B Mistake
given (Ok x) then = then x
given (Err m) then = Err m

abbrev pub present : ℕ → Option (List ℕ) → Result (List ℕ) Mistake
present n None = wrong n MissingWord
present n (Some w) = Ok w

abbrev pub word_at : List (List ℕ) → ℕ → Result (List ℕ) Mistake
word_at ws n = present n (slice_get ws (n - 1))

abbrev pub blamed : {A : Type 0} → ℕ → Result A Fault → Result A Mistake
blamed n (Ok x) = Ok x
blamed n (Err fault) = wrong n fault

abbrev pub read_at : {A : Type 0} → (List ℕ → Result A Fault) → List (List ℕ) → ℕ → Result A Mistake
read_at read ws n = given (word_at ws n) (λ w. blamed n (read w))

abbrev pub faulted : {A E : Type 0} → Fault → Result A E → Result A Fault
faulted fault (Ok x) = Ok x
faulted fault (Err _) = Err fault

abbrev pub verb : List ℕ → Result Verb Fault
verb w = faulted UnknownCommand (verb_named w)

abbrev pub medium : List ℕ → Result Medium Fault
medium w = faulted NotAMedium (medium_named w)

abbrev pub yardstick : List ℕ → Result Yardstick Fault
yardstick w = faulted NotAYardstick (yardstick_named w)

abbrev pub devices : ℕ → List (List ℕ) → Result (List ℕ) Mistake
devices n [] = Ok []
devices n (w ∷ ws) = given (blamed n (number 255 w)) (λ d. given (devices (n + 1) ws) (λ ds. Ok (d ∷ ds)))

abbrev pub devices_from : List (List ℕ) → ℕ → Result (List ℕ) Mistake
devices_from ws n = devices n (drop (n - 1) ws)

abbrev pub end_at : List (List ℕ) → ℕ → Result (Unit {0}) Mistake
end_at ws n = cond (nat_le n (length ws)) (wrong n ExtraWord) (Ok tt)

abbrev pub stop_at : ℕ → Fault → Stop
stop_at n fault = stop.Mistake (record { word = n; fault = fault })

abbrev pub Reads : {X Y : Type 0} → (X → Y) → Result X Stop → Result Y Mistake → Type 0
Reads f (Ok x) s = s ≡ Ok (f x)
Reads f (Err (stop.Mistake m)) s = s ≡ Err m
Reads f (Err stop.Memory) s = Unit {0}
