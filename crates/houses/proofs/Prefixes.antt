-- A prefix of a sheet that has room for 257 records has the fault of the whole. Assumes nothing.
use Rattle.std.proofs.Common.{◌≡◌, ℕ, zero, suc, ◌+◌, ◌*◌, ◌≤◌, Bool, true, false, cond, ltb, List, [], ◌∷◌, length, take, Ok, Err, Result, sym, refl, ap, ◌∙◌, subst, arith, ltb-false, le-ltb}
use Rattle.std.proofs.lemmas.List.{get_or-take, length-take-le}
use Rattle.network.specs.declared.refusal.Refusal.{Refusal}
use Rattle.network.specs.declared.refusal.Refusal.TheVariants.{TooManyCables}
use Rattle.houses.specs.Records.{front, body, span, spread}
use Rattle.houses.specs.RecordRules.{front_sound}
use Rattle.houses.specs.Sheets.{Meaning, before, read_record, read}
use Rattle.houses.specs.SheetLaws.{FirstFault}
use Rattle.houses.specs.declared.misread.Misread.{Misread}
use Rattle.houses.specs.declared.records.Record.{Record}
use Rattle.houses.proofs.Reading.{body_few}

-- two meanings are the same fault
abbrev SameFault : Meaning → Meaning → Type 0
SameFault x y = (f : Misread) × (x ≡ Err f) × (y ≡ Err f)

-- the first record is told by seven bytes
front_take : (k : ℕ) (bs : List ℕ) → 7 ≤ k → k ≤ length bs → front (take k bs) ≡ front bs
front_take k bs room within =
    let long = length-take-le k bs within in
    let six = le-ltb (length (take k bs)) 6 (omega arith) ∙ sym (le-ltb (length bs) 6 (omega arith)) in
    let seven = le-ltb (length (take k bs)) 7 (omega arith) ∙ sym (le-ltb (length bs) 7 (omega arith)) in
    let kind = get_or-take k bs 0 0 (omega arith) in
    let second = get_or-take k bs 1 0 (omega arith) in
    let third = get_or-take k bs 2 0 (omega arith) in
    let fourth = get_or-take k bs 3 0 (omega arith) in
    let fifth = get_or-take k bs 4 0 (omega arith) in
    let sixth = get_or-take k bs 5 0 (omega arith) in
    let last = get_or-take k bs 6 0 (omega arith) in
    cc

-- a record with a fault, or with too many cables, is the fault of both; else it is the fault of what follows
fault_record : (o n : ℕ) (x : Result Record Refusal) (p q : ℕ → Meaning)
    → ((r : Record) → x ≡ Ok r → n + span r ≤ 256 → SameFault (p (n + span r)) (q (n + span r)))
    → SameFault (read_record o n x p) (read_record o n x q)
fault_record o n (Err e) p q later = (record { cause = e; place = o }, refl, refl)
fault_record o n (Ok r) p q later = go (ltb 256 (n + span r)) refl
  where
    go : (t : Bool) → ltb 256 (n + span r) ≡ t
        → SameFault (cond t (Err (record { cause = TooManyCables; place = o })) (before (spread r) (p (n + span r)))) (
        cond t (Err (record { cause = TooManyCables; place = o })) (before (spread r) (q (n + span r))))
    go true e = (record { cause = TooManyCables; place = o }, refl, refl)
    go false e =
        let same = later r refl (ltb-false 256 (n + span r) e) in
        (same.0, ap (before (spread r)) same.1, ap (before (spread r)) same.2)

-- n cables are read, and the first k bytes have room for the rest of a body and 257 - n records
fault_from : (o n s k : ℕ) (bs : List ℕ) → n ≤ 256 → s + 1799 ≤ k + 7 * n → k ≤ length bs → SameFault (read o n s bs) (read o n s (take k bs))
fault_from o n s k [] few room within = absurd (omega arith)
fault_from o n s zero (b ∷ bs) few room within = absurd (omega arith)
fault_from o n (suc s) (suc k) (b ∷ bs) few room within = fault_from (o + 1) n s k bs few (omega arith) (omega arith)
fault_from o n zero (suc k) (b ∷ bs) few room within =
    subst (λ x. SameFault (read o n 0 (b ∷ bs)) (read_record o n x (λ m. read (o + 1) m (body b) (take k bs)))) (sym (front_take (suc k) (b ∷ bs) (omega arith) within)) (
    fault_record o n (front (b ∷ bs)) (λ m. read (o + 1) m (body b) bs) (λ m. read (o + 1) m (body b) (take k bs)) (λ r e more.
    let some = (front_sound (b ∷ bs) r e).0.0 in
    let short = body_few b in
    fault_from (o + 1) (n + span r) (body b) k bs more (omega arith) (omega arith)))

pub first_fault : FirstFault
first_fault bs long = fault_from 0 0 0 2048 bs (omega arith) (omega arith) (omega arith)
