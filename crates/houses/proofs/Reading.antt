-- Reading a sheet record by record: what the first record adds to the meaning of the bytes after it. Assumes nothing.
use Rattle.std.proofs.Common.{◌≡◌, ℕ, zero, suc, ◌+◌, ◌-◌, ◌*◌, ◌<◌, ◌≤◌, Bool, true, false, cond, eqb, List, [], ◌∷◌, ◌++◌, length, get_or, drop, Some, Ok, Err, Result, is_ok, sym, refl, ap, ◌∙◌, ⊎_elim, arith, length-append, length-drop, le-ltb, lt-ltb}
use Rattle.std.proofs.lemmas.Bool.{cases_lt}
use Rattle.std.proofs.lemmas.List.FromFn.{length-map-range_with_len}
use Rattle.std.specs.List.{slice_get}
use Rattle.network.specs.declared.cable.Cable.{Cable}
use Rattle.network.specs.declared.refusal.Refusal.{Refusal}
use Rattle.network.specs.declared.refusal.Refusal.TheVariants.{TooManyCables}
use Rattle.network.proofs.ListPlaces.{nth_left, nth_right, nth_counted}
use Rattle.houses.specs.Records.{front, body, span, link, spread}
use Rattle.houses.specs.RecordRules.{front_sound}
use Rattle.houses.specs.Walks.{Stepped}
use Rattle.houses.specs.Sheets.{Meaning, before, read_record, read, meaning, counted, cables_of}
use Rattle.houses.specs.declared.misread.Misread.{Misread}
use Rattle.houses.specs.declared.records.Record.{Record}

read_skip : (o n s : ℕ) (bs : List ℕ) → s ≤ length bs → read o n s bs ≡ read (o + s) n 0 (drop s bs)
read_skip o n zero bs h = ap (λ i. read i n 0 bs) (omega arith)
read_skip o n (suc s) [] h = absurd (omega arith)
read_skip o n (suc s) (b ∷ bs) h = read_skip (o + 1) n s bs (omega arith) ∙ ap (λ i. read i n 0 (drop s bs)) (omega arith)

-- the first record's fault is the meaning
pub read_bad : (o n : ℕ) (bs : List ℕ) (e : Refusal) → 0 < length bs → front bs ≡ Err e → read o n 0 bs ≡ Err (record { cause = e; place = o })
read_bad o n [] e h p = absurd (omega arith)
read_bad o n (b ∷ bs) e h p = ap (λ x. read_record o n x (λ m. read (o + 1) m (body b) bs)) p

pub read_many : (o n : ℕ) (bs : List ℕ) (r : Record) → 0 < length bs → front bs ≡ Ok r → 256 < n + span r
    → read o n 0 bs ≡ Err (record { cause = TooManyCables; place = o })
read_many o n [] r h p many = absurd (omega arith)
read_many o n (b ∷ bs) r h p many =
    ap (λ x. read_record o n x (λ m. read (o + 1) m (body b) bs)) p
    ∙ ap (λ t. cond t (Err (record { cause = TooManyCables; place = o })) (before (spread r) (read (o + 1) (n + span r) (body b) bs))) (lt-ltb 256 (n + span r) many)

-- the offset of what follows the first record
abbrev pub past : List ℕ → ℕ
past bs = suc (body (get_or bs 0 0))

pub read_good : (o n : ℕ) (bs : List ℕ) (r : Record) → 0 < length bs → front bs ≡ Ok r → n + span r ≤ 256
    → read o n 0 bs ≡ before (spread r) (read (o + past bs) (n + span r) 0 (drop (past bs) bs))
read_good o n [] r h p few = absurd (omega arith)
read_good o n (b ∷ bs) r h p few =
    ap (λ x. read_record o n x (λ m. read (o + 1) m (body b) bs)) p
    ∙ ap (λ t. cond t (Err (record { cause = TooManyCables; place = o })) (before (spread r) (read (o + 1) (n + span r) (body b) bs))) (le-ltb 256 (n + span r) few)
    ∙ ap (before (spread r)) (read_skip (o + 1) (n + span r) (body b) bs (let w = (front_sound (b ∷ bs) r p).1 in omega arith)
    ∙ ap (λ i. read i (n + span r) 0 (drop (body b) bs)) (omega arith))

pub body_few : (kind : ℕ) → body kind ≤ 6
body_few kind = go (eqb kind 3)
  where
    go : (t : Bool) → cond t 6 5 ≤ 6
    go true = omega arith
    go false = omega arith

-- what follows the first record is shorter by the record
pub length_past : (bs : List ℕ) (r : Record) → front bs ≡ Ok r → (length (drop (past bs) bs) + past bs ≡ length bs) × (past bs ≤ 7)
length_past bs r p =
    let w = (front_sound bs r p).1 in
    let f = body_few (get_or bs 0 0) in
    (omega (arith, length-drop (past bs) bs), omega arith)

counted_before : (n k : ℕ) (cs : List Cable) (m : Meaning) → length cs ≡ k → counted n (before cs m) ≡ counted (n + k) m
counted_before n k cs (Ok ds) e = ap Ok (omega (arith, length-append cs ds))
counted_before n k cs (Err f) e = refl

-- a survey at an offset, with n cables found before it: each record has a cable, and at most seven bytes
abbrev pub Surveyed : List ℕ → (o n : ℕ) → List ℕ → Type 0
Surveyed bytes o n left = (counted 0 (meaning bytes) ≡ counted n (read o n 0 left)) × (n ≤ 256) × (o ≤ 7 * n)

pub surveyed_more : (bytes bs rest : List ℕ) (o n more : ℕ) (r : Record) → 0 < length bs → front bs ≡ Ok r → rest ≡ drop (past bs) bs → more ≡ span r
    → n + more ≤ 256 → Surveyed bytes o n bs → Surveyed bytes (o + (length bs - length rest)) (n + more) rest
surveyed_more bytes bs rest o n more r h p q m few inv =
    let l = length_past bs r p in
    let some = (front_sound bs r p).0.0 in
    let moved : o + (length bs - length rest) ≡ o + past bs = omega (arith, ap length q) in
    let count : n + more ≡ n + span r = omega arith in (
      inv.0
          ∙ ap (counted n) (read_good o n bs r h p (omega arith))
          ∙ counted_before n (span r) (spread r) (read (o + past bs) (n + span r) 0 (drop (past bs) bs)) (length-map-range_with_len (link r) 0 (span r))
          ∙ ap (λ k. counted k (read (o + past bs) k 0 (drop (past bs) bs))) (sym count)
          ∙ ap (λ i. counted (n + more) (read i (n + more) 0 (drop (past bs) bs))) (sym moved)
          ∙ ap (λ left. counted (n + more) (read (o + (length bs - length rest)) (n + more) 0 left)) (sym q),
      few,
      omega arith,
    )

-- the same at a step over a record that can be read
pub surveyed_step : (bytes left rest : List ℕ) (o n more place after : ℕ) (x : Result Record Refusal) (r : Record) → Stepped left o (Some (place, x)) rest after
    → x ≡ Ok r → more ≡ span r → n + more ≤ 256 → Surveyed bytes o n left → Surveyed bytes after (n + more) rest
surveyed_step bytes left rest o n more place after (Ok t) r s e m few inv =
    let same : t ≡ r = cc in
    let next = surveyed_more bytes left rest o n more r s.0 (s.2 ∙ e) s.3.0 m few inv in
    rw s.3.1 next
surveyed_step bytes left rest o n more place after (Err f) r s e m few inv = absurd (let z : ◌≡◌ {A = ℕ} 0 1 = cc in omega arith)

-- a survey that meets a record that cannot be read
pub surveyed_end : (bytes left rest : List ℕ) (o n place after : ℕ) (x : Result Record Refusal) (e : Refusal) → Stepped left o (Some (place, x)) rest after
    → x ≡ Err e → Surveyed bytes o n left → Err (record { cause = e; place = place }) ≡ counted 0 (meaning bytes)
surveyed_end bytes left rest o n place after x e s p inv =
    rw s.1 (sym (inv.0 ∙ ap (counted n) (read_bad o n left e s.0 (s.2 ∙ p))))

-- the cables of the first record, and those of what follows
pub record First (o n : ℕ) (bs : List ℕ) (r : Record) (cs : List Cable) : Type 0 where
  pub later : List Cable
  pub joined : cs ≡ spread r ++ later
  pub follows : read (o + past bs) (n + span r) 0 (drop (past bs) bs) ≡ Ok later

pub read_first : (o n : ℕ) (bs : List ℕ) (r : Record) (cs : List Cable) → 0 < length bs → front bs ≡ Ok r → read o n 0 bs ≡ Ok cs → First o n bs r cs
read_first o n bs r cs h p e = ⊎_elim
    (λ (many : 256 < n + span r). no_fault _ cs (sym (read_many o n bs r h p many) ∙ e))
    (λ (few : n + span r ≤ 256). go (read (o + past bs) (n + span r) 0 (drop (past bs) bs)) refl (sym (read_good o n bs r h p few) ∙ e))
    (cases_lt 256 (n + span r))
  where
    no_fault : {A : Type 0} (f : Misread) (ds : List Cable) → Err f ≡ Ok ds → A
    no_fault f ds e = let z : ◌≡◌ {A = ℕ} 0 1 = cc in absurd (omega arith)

    go : (m : Meaning) → read (o + past bs) (n + span r) 0 (drop (past bs) bs) ≡ m → before (spread r) m ≡ Ok cs → First o n bs r cs
    go (Ok ds) q b = record { later = ds; joined = cc; follows = q }
    go (Err f) q b = no_fault f cs b

-- a read that has no fault has none at its first record
pub read_fine : (o n : ℕ) (bs : List ℕ) (cs : List Cable) (e : Refusal) → 0 < length bs → read o n 0 bs ≡ Ok cs → front bs ≡ Err e → ⊥
read_fine o n bs cs e h p q = let z = sym (read_bad o n bs e h q) ∙ p in let y : ◌≡◌ {A = ℕ} 0 1 = cc in omega arith

pub nth_first : (r : Record) (later : List Cable) (k : ℕ) → k < span r → slice_get (spread r ++ later) k ≡ Some (link r k)
nth_first r later k low =
    let n = length-map-range_with_len (link r) 0 (span r) in
    nth_left (spread r) later k (omega arith) ∙ nth_counted (link r) 0 (span r) k low ∙ ap (λ i. Some (link r i)) (omega arith)

pub nth_later : (r : Record) (later : List Cable) (k : ℕ) → span r ≤ k → slice_get (spread r ++ later) k ≡ slice_get later (k - span r)
nth_later r later k high =
    let n = length-map-range_with_len (link r) 0 (span r) in
    nth_right (spread r) later k (omega arith) ∙ ap (λ i. slice_get later (k - i)) n

-- the cable of a place is among those of the bytes left, after as many as are skipped
abbrev pub Followed : List ℕ → ℕ → List ℕ → ℕ → Type 0
Followed bytes place left skip =
    (o : ℕ) × (n : ℕ) × (cs : List Cable) × (read o n 0 left ≡ Ok cs) × (slice_get (cables_of (meaning bytes)) place ≡ slice_get cs skip)

module _ (bytes : List ℕ) (place : ℕ) (left : List ℕ) (skip : ℕ) where
  pub followed_start : is_ok (meaning bytes) ≡ true → left ≡ bytes → Followed bytes place left place
  followed_start sound same = rw same (go (meaning bytes) refl sound)
    where
      go : (m : Meaning) → meaning bytes ≡ m → is_ok m ≡ true → Followed bytes place bytes place
      go (Ok cs) e t = (0, 0, cs, e, ap (λ m. slice_get (cables_of m) place) e)
      go (Err f) e t = absurd (let z : ◌≡◌ {A = ℕ} 0 1 = cc in omega arith)

  pub followed_fine : (x : Result Record Refusal) → 0 < length left → front left ≡ x → Followed bytes place left skip → (r : Record) × (x ≡ Ok r)
  followed_fine (Ok r) h p inv = (r, refl)
  followed_fine (Err e) h p inv = absurd (read_fine inv.0 inv.1 left inv.2 e h inv.3 p)

  pub followed_here : (r : Record) → 0 < length left → front left ≡ Ok r → skip < span r → Followed bytes place left skip
      → Some (link r skip) ≡ slice_get (cables_of (meaning bytes)) place
  followed_here r h p low inv =
      let f = read_first inv.0 inv.1 left r inv.2 h p inv.3 in
      sym (inv.4 ∙ ap (λ cs. slice_get cs skip) f.joined ∙ nth_first r f.later skip low)

  pub followed_on : (r : Record) (rest : List ℕ) (more : ℕ) → 0 < length left → front left ≡ Ok r → rest ≡ drop (past left) left → more ≡ span r → more ≤ skip
      → Followed bytes place left skip → Followed bytes place rest (skip - more)
  followed_on r rest more h p q m high inv =
      let f = read_first inv.0 inv.1 left r inv.2 h p inv.3 in (
        inv.0 + past left,
        inv.1 + span r,
        f.later,
        ap (read (inv.0 + past left) (inv.1 + span r) 0) q ∙ f.follows,
        inv.4 ∙ ap (λ cs. slice_get cs skip) f.joined ∙ nth_later r f.later skip (omega arith) ∙ ap (λ n. slice_get f.later (skip - n)) (sym m),
      )
