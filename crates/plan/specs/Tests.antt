-- What a question is tested for, and what is said of its answer. Assumes nothing.
--   outside bs           one of the bytes is above 127
--   list_then l x        the first rule that the list breaks, else x: it is not empty, has 128 entries at most, and names devices only
--   list_check l         the list alone
--   buffer_check l n     the list, and then that a buffer of n bytes has 128 or more
--   run_check l          the list, and then that it names two different devices or more
--   ill_formed bs        a cut sheet has another length than 128 bytes, or one of them is above 127
--   sheet_check l bs     the list, and then that a cut sheet is not ill_formed
--   Gives check P r      the answer r is a refusal just if the check is, with the same cause; else P holds of what is answered
--   Past check P r       the answer r is the check's refusal; past the check, P holds of it
--   Writes bs r bs'      what a call that writes 128 bytes leaves in its buffer: later bytes stay, and all of them where it is refused
use Rattle.std.specs.Prelude.{◌≡◌, ℕ, Bool, not, ◌||◌, List, length, drop, Ok, Err, Result, ◌==◌, nat_lt}
use Rattle.std.specs.List.{list_any}
use Rattle.network.specs.Cables.{above}
use Rattle.network.specs.Figures.{several}
use Rattle.network.specs.Lists.{member}
use Rattle.network.specs.Refusals.{refuse}
use Rattle.network.specs.declared.refusal.Refusal.{Refusal}
use Rattle.network.specs.declared.refusal.Refusal.TheVariants.{DeviceOutOfRange, ListEmpty, ListTooLong, BufferTooShort, TooFewDevices, BadCutSheet}

abbrev pub outside : List ℕ → Bool
outside bs = list_any above bs

abbrev pub list_then : {A : Type 0} → List ℕ → Result A Refusal → Result A Refusal
list_then l x =
    refuse ListEmpty (length l == 0) (
    refuse ListTooLong (nat_lt 128 (length l)) (
    refuse DeviceOutOfRange (outside l) x))

abbrev pub list_check : List ℕ → Result (Unit {0}) Refusal
list_check l = list_then l (Ok tt)

abbrev pub buffer_check : List ℕ → ℕ → Result (Unit {0}) Refusal
buffer_check l n = list_then l (refuse BufferTooShort (nat_lt n 128) (Ok tt))

abbrev pub run_check : List ℕ → Result (Unit {0}) Refusal
run_check l = list_then l (refuse TooFewDevices (not (several (member l))) (Ok tt))

abbrev pub ill_formed : List ℕ → Bool
ill_formed bs = not (length bs == 128) || outside bs

abbrev pub sheet_check : List ℕ → List ℕ → Result (Unit {0}) Refusal
sheet_check l bs = list_then l (refuse BadCutSheet (ill_formed bs) (Ok tt))

abbrev pub Gives : {A : Type 0} → Result (Unit {0}) Refusal → (A → Type 0) → Result A Refusal → Type 0
Gives check P (Ok x) = (check ≡ Ok tt) × P x
Gives check P (Err e) = check ≡ Err e

abbrev pub Past : {A : Type 0} → Result (Unit {0}) Refusal → (Result A Refusal → Type 0) → Result A Refusal → Type 0
Past (Ok x) P r = P r
Past (Err e) P r = r ≡ Err e

abbrev pub Writes : {A : Type 0} → List ℕ → Result A Refusal → List ℕ → Type 0
Writes bs (Ok x) bs' = (length bs' ≡ length bs) × (drop 128 bs' ≡ drop 128 bs)
Writes bs (Err e) bs' = bs' ≡ bs
