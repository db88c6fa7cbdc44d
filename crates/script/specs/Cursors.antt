-- Where the reading of a line stands. Assumes nothing.
--   texts c                     the words of the line
--   Takes n f r c c' read       the code's r is what `read` says of the words that are next at c, seen through f; where they are
--                               read, c' stands n words further
--   TakesRest f r c c' read     the same, where c' stands past the last word
--   Follows gives says          whatever is given for a word is what `says` says of it
--   Leads r c s                 the code's r is what s says, but for the end of the line, which is looked for at c
use Rattle.std.specs.Prelude.{◌≡◌, ℕ, ◌+◌, ◌<◌, List, length, map, OnOk, vec_items, Ok, Err, Result}
use Rattle.script.specs.declared.command.Command.{Command}
use Rattle.script.specs.declared.cursor.Cursor.{Cursor}
use Rattle.script.specs.declared.mistake.Mistake.{Mistake}
use Rattle.script.specs.declared.stop.Stop.{Stop}
use Rattle.script.specs.declared.stop.Stop.TheVariants as stop
use Rattle.script.specs.Words.{text}
use Rattle.script.specs.Arguments.{Reads}
use Rattle.script.specs.Orders.{Order, order_of, ending}

abbrev pub texts : Cursor → List (List ℕ)
texts c = map text (vec_items c.words)

abbrev pub Takes : {X Y : Type 0} → ℕ → (X → Y) → Result X Stop → Cursor → Cursor → (List (List ℕ) → ℕ → Result Y Mistake) → Type 0
Takes n f r c c' read = Reads f r (read (texts c) c.place) × (texts c' ≡ texts c) × OnOk r (c'.place ≡ c.place + n)

abbrev pub TakesRest : {X Y : Type 0} → (X → Y) → Result X Stop → Cursor → Cursor → (List (List ℕ) → ℕ → Result Y Mistake) → Type 0
TakesRest f r c c' read = Reads f r (read (texts c) c.place) × (texts c' ≡ texts c) × OnOk r (length (texts c') < c'.place)

abbrev pub Follows : {Y E : Type 0} → (List ℕ → Result Y E → Type 0) → (List ℕ → Result Y E) → Type 0
Follows {Y} {E} gives says = (w : List ℕ) (r : Result Y E) → gives w r → r ≡ says w

abbrev pub Leads : Result Command Stop → Cursor → Result Order Mistake → Type 0
Leads (Ok command) c s = s ≡ ending (texts c) c.place (order_of command)
Leads (Err (stop.Mistake m)) c s = s ≡ Err m
Leads (Err stop.Memory) c s = Unit {0}
