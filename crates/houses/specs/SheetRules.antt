-- Whatever its bytes, a sheet keeps the house rules. Assumes nothing.
use Rattle.std.specs.Prelude.{◌≡◌, ℕ, zero, suc, ◌+◌, ◌≤◌, Bool, true, false, cond, List, [], ◌∷◌, length, Ok, Err, Result, nat_lt, refl}
use Rattle.std.proofs.Common.{arith, ltb-false, length-append}
use Rattle.std.proofs.lemmas.List.FromFn.{length-map-range_with_len}
use Rattle.network.specs.Cables.{Lawful}
use Rattle.network.specs.declared.cable.Cable.{Cable}
use Rattle.network.specs.declared.refusal.Refusal.{Refusal}
use Rattle.network.specs.declared.refusal.Refusal.TheVariants.{TooManyCables}
use Rattle.network.proofs.ListPlaces.{lawful_none, lawful_append, lawful_counted}
use Rattle.houses.specs.Records.{front, body, span, link, spread, Sound}
use Rattle.houses.specs.RecordRules.{front_sound}
use Rattle.houses.specs.Sheets.{Meaning, before, read_record, read, meaning, cables_of}
use Rattle.houses.specs.declared.records.Record.{Record}

few_before : (cs : List Cable) (m : Meaning) (n k : ℕ) → length cs ≡ k → n + k + length (cables_of m) ≤ 256 → n + length (cables_of (before cs m)) ≤ 256
few_before cs (Ok ds) n k e h = omega (arith, length-append cs ds)
few_before cs (Err f) n k e h = omega arith

few_record : (o n : ℕ) (x : Result Record Refusal) (rest : ℕ → Meaning) → n ≤ 256
    → ((m : ℕ) → m ≤ 256 → m + length (cables_of (rest m)) ≤ 256) → n + length (cables_of (read_record o n x rest)) ≤ 256
few_record o n (Err e) rest h more = omega arith
few_record o n (Ok r) rest h more = go (nat_lt 256 (n + span r)) refl
  where
    go : (t : Bool) → nat_lt 256 (n + span r) ≡ t
        → n + length (cables_of (cond t (Err (record { cause = TooManyCables; place = o })) (before (spread r) (rest (n + span r))))) ≤ 256
    go true e = omega arith
    go false e = few_before (spread r) (rest (n + span r)) n (span r) (length-map-range_with_len (link r) 0 (span r)) (more (n + span r) (ltb-false 256 (n + span r) e))

few_from : (o n skip : ℕ) (bs : List ℕ) → n ≤ 256 → n + length (cables_of (read o n skip bs)) ≤ 256
few_from o n skip [] h = omega arith
few_from o n (suc s) (b ∷ bs) h = few_from (o + 1) n s bs h
few_from o n zero (b ∷ bs) h = few_record o n (front (b ∷ bs)) (λ m. read (o + 1) m (body b) bs) h (λ m g. few_from (o + 1) m (body b) bs g)

pub few_read : (bs : List ℕ) → length (cables_of (meaning bs)) ≤ 256
few_read bs = let h = few_from 0 0 0 bs (omega arith) in omega arith

lawful_before : (cs : List Cable) (m : Meaning) → Lawful cs → Lawful (cables_of m) → Lawful (cables_of (before cs m))
lawful_before cs (Ok ds) p q = lawful_append cs ds p q
lawful_before cs (Err f) p q = lawful_none

lawful_record : (o n : ℕ) (x : Result Record Refusal) (rest : ℕ → Meaning) → ((r : Record) → x ≡ Ok r → Sound r)
    → ((m : ℕ) → Lawful (cables_of (rest m))) → Lawful (cables_of (read_record o n x rest))
lawful_record o n (Err e) rest sound more = lawful_none
lawful_record o n (Ok r) rest sound more = go (nat_lt 256 (n + span r))
  where
    go : (t : Bool) → Lawful (cables_of (cond t (Err (record { cause = TooManyCables; place = o })) (before (spread r) (rest (n + span r)))))
    go true = lawful_none
    go false = lawful_before (spread r) (rest (n + span r)) (lawful_counted (link r) 0 (span r) (λ i p q. (sound r refl).1 i (omega arith))) (more (n + span r))

lawful_from : (o n skip : ℕ) (bs : List ℕ) → Lawful (cables_of (read o n skip bs))
lawful_from o n skip [] = lawful_none
lawful_from o n (suc s) (b ∷ bs) = lawful_from (o + 1) n s bs
lawful_from o n zero (b ∷ bs) =
    lawful_record o n (front (b ∷ bs)) (λ m. read (o + 1) m (body b) bs) (λ r e. (front_sound (b ∷ bs) r e).0) (λ m. lawful_from (o + 1) m (body b) bs)

pub lawful_read : (bs : List ℕ) → Lawful (cables_of (meaning bs))
lawful_read bs = lawful_from 0 0 0 bs
