-- The records of a sheet. Assumes nothing.
--   run_of m hi lo             the run that a medium byte and two length bytes tell, the high byte first; none unless it is lawful
--   one_record a b run         one cable, or the first rule that it breaks
--   chain_record f c run       a chain: at least one cable, and no device above 127
--   star_record h f c run      a star: at least one cable, no leaf above 127, and the hub no leaf
--   front bs                   the record that bytes begin with, by its kind, or the first rule that it breaks
--   body kind                  how many bytes follow a kind byte
--   span r                     how many cables a record has
--   link r i                   cable i of a record
--   spread r                   all its cables
--   Sound r                    it has a cable, and all are lawful
use Rattle.std.specs.Prelude.{ℕ, ◌+◌, ◌*◌, ◌<◌, ◌≤◌, cond, ◌&&◌, ◌||◌, List, map, length, Some, None, Ok, Err, Option, Result, ◌==◌, nat_le, nat_lt, slice_index}
use Rattle.std.specs.List.{range_with_len}
use Rattle.network.specs.Cables.{above, fit_run, LawfulCable}
use Rattle.network.specs.Refusals.{refuse}
use Rattle.network.specs.declared.cable.Cable.{Cable}
use Rattle.network.specs.declared.cable.Run.{Run}
use Rattle.network.specs.declared.cable.Medium.TheVariants.{Copper, Fibre}
use Rattle.network.specs.declared.refusal.Refusal.{Refusal}
use Rattle.network.specs.declared.refusal.Refusal.TheVariants.{DeviceOutOfRange, SameEnds, RunOutOfRange, UnknownKind, BodyCutShort, BadChainOrStar}
use Rattle.houses.specs.declared.records.Record.{Record}
use Rattle.houses.specs.declared.records.Record.TheVariants.{One, Chain, Star}

abbrev pub lawful_run : Run → Option Run
lawful_run r = cond (fit_run r) (Some r) None

abbrev pub run_of : (m hi lo : ℕ) → Option Run
run_of m hi lo =
    cond (m == 0) (lawful_run (record { medium = Copper; length = hi * 256 + lo })) (
    cond (m == 1) (lawful_run (record { medium = Fibre; length = hi * 256 + lo }))
    None)

abbrev pub with_run : Option Run → (Run → Record) → Result Record Refusal
with_run (Some run) made = Ok (made run)
with_run None made = Err RunOutOfRange

abbrev pub one_record : (a b : ℕ) → Option Run → Result Record Refusal
one_record a b run =
    refuse DeviceOutOfRange (above a || above b) (
    refuse SameEnds (a == b) (
    with_run run (λ r. One (record { a = a; b = b; run = r }))))

abbrev pub chain_record : (f c : ℕ) → Option Run → Result Record Refusal
chain_record f c run =
    refuse DeviceOutOfRange (above f) (
    refuse BadChainOrStar (nat_lt c 1 || above (f + c)) (
    with_run run (λ r. Chain (record { first = f; count = c; run = r }))))

abbrev pub star_record : (h f c : ℕ) → Option Run → Result Record Refusal
star_record h f c run =
    refuse DeviceOutOfRange (above h || above f) (
    refuse BadChainOrStar (nat_lt c 1 || (nat_lt 128 (f + c) || (nat_le f h && nat_lt h (f + c)))) (
    with_run run (λ r. Star (record { hub = h; first = f; count = c; run = r }))))

abbrev pub front : List ℕ → Result Record Refusal
front bs =
    cond (slice_index bs 0 == 1) (refuse BodyCutShort (nat_lt (length bs) 6)
    (one_record (slice_index bs 1) (slice_index bs 2) (run_of (slice_index bs 3) (slice_index bs 4) (slice_index bs 5)))) (
    cond (slice_index bs 0 == 2) (refuse BodyCutShort (nat_lt (length bs) 6)
    (chain_record (slice_index bs 1) (slice_index bs 2) (run_of (slice_index bs 3) (slice_index bs 4) (slice_index bs 5)))) (
    cond (slice_index bs 0 == 3) (refuse BodyCutShort (nat_lt (length bs) 7)
    (star_record (slice_index bs 1) (slice_index bs 2) (slice_index bs 3) (run_of (slice_index bs 4) (slice_index bs 5) (slice_index bs 6))))
    (Err UnknownKind)))

abbrev pub body : ℕ → ℕ
body kind = cond (kind == 3) 6 5

abbrev pub span : Record → ℕ
span (One c) = 1
span (Chain d) = d.count
span (Star s) = s.count

abbrev pub link : Record → ℕ → Cable
link (One c) i = c
link (Chain d) i = record { a = d.first + i; b = d.first + i + 1; run = d.run }
link (Star s) i = record { a = s.hub; b = s.first + i; run = s.run }

abbrev pub spread : Record → List Cable
spread r = map (link r) (range_with_len 0 (span r))

abbrev pub Sound : Record → Type 0
Sound r = (1 ≤ span r) × ((i : ℕ) → i < span r → LawfulCable (link r i))
