-- Rings. Assumes nothing.
--   link f c run i       cable i of a ring of c devices from f on: (f + i) mod 128 to (f + ((i + 1) mod c)) mod 128
--   ring f c run         the cables of the ring, i from 0 to c - 1
--   ring_answer f c run  the ring's cables, or the first rule that it breaks
use Rattle.std.specs.Prelude.{ℕ, ◌+◌, ◌%◌, not, ◌||◌, List, map, Ok, Result, nat_lt}
use Rattle.std.specs.List.{range_with_len}
use Rattle.network.specs.Cables.{above, fit_run}
use Rattle.network.specs.Refusals.{refuse}
use Rattle.network.specs.declared.cable.Cable.{Cable}
use Rattle.network.specs.declared.cable.Run.{Run}
use Rattle.network.specs.declared.refusal.Refusal.{Refusal}
use Rattle.network.specs.declared.refusal.Refusal.TheVariants.{DeviceOutOfRange, RunOutOfRange, RingCount}

abbrev pub link : (f c : ℕ) → Run → ℕ → Cable
link f c run i = record { a = (f + i) % 128; b = (f + ((i + 1) % c)) % 128; run = run }

abbrev pub ring : (f c : ℕ) → Run → List Cable
ring f c run = map (link f c run) (range_with_len 0 c)

abbrev pub ring_answer : (f c : ℕ) → Run → Result (List Cable) Refusal
ring_answer f c run =
    refuse DeviceOutOfRange (above f) (
    refuse RingCount (nat_lt c 3 || nat_lt 128 c) (
    refuse RunOutOfRange (not (fit_run run)) (
    Ok (ring f c run))))
