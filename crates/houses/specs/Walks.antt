-- Steps from record to record. Assumes nothing.
--   Stepped left place item rest after   from the bytes left, which begin at an offset, to those after their first record: the
--                                        item is the offset and the record, or its fault; none where no bytes are left
use Rattle.std.specs.Prelude.{◌≡◌, ℕ, suc, ◌+◌, ◌-◌, ◌<◌, List, length, drop, Option, Result, MatchOption, IfOk, slice_index}
use Rattle.network.specs.declared.refusal.Refusal.{Refusal}
use Rattle.houses.specs.Records.{front, body}
use Rattle.houses.specs.declared.records.Record.{Record}

abbrev pub Stepped : (left : List ℕ) (place : ℕ) → Option (ℕ × Result Record Refusal) → (rest : List ℕ) (after : ℕ) → Type 0
Stepped left place item rest after =
    MatchOption item (length left ≡ 0) (λ x.
    (0 < length left) × (x.0 ≡ place) × (front left ≡ x.1)
    × IfOk x.1 (λ _. (rest ≡ drop (suc (body (slice_index left 0))) left) × (after ≡ place + (length left - length rest))))
