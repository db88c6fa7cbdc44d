-- A record that is read has a cable, all its cables are lawful, and its bytes are there. Assumes nothing.
use Rattle.std.specs.Prelude.{◌≡◌, ℕ, suc, ◌+◌, ◌*◌, ◌<◌, ◌≤◌, Bool, true, false, cond, ◌&&◌, ◌||◌, List, length, Some, None, Ok, Err, Option, Result, ◌==◌, ◌≢◌, nat_le, nat_lt, slice_index, slice_index_or, refl}
use Rattle.std.proofs.Common.{sym, subst, ◌∙◌, arith, leb-true, ltb-false, eqb-true, le-leb, lt-ltb}
use Rattle.std.proofs.lemmas.Bool.{true≢false, and_parts, and_from, or_parts, eqb-false}
use Rattle.network.specs.Cables.{above, reach, fit_run, LawfulCable}
use Rattle.network.specs.Refusals.{refuse}
use Rattle.network.specs.declared.cable.Medium.TheVariants.{Copper, Fibre}
use Rattle.network.specs.declared.cable.Run.{Run}
use Rattle.network.specs.declared.refusal.Refusal.{Refusal}
use Rattle.network.specs.declared.refusal.Refusal.TheVariants.{DeviceOutOfRange, SameEnds, RunOutOfRange, UnknownKind, BodyCutShort, BadChainOrStar}
use Rattle.houses.specs.Records.{lawful_run, run_of, with_run, one_record, chain_record, star_record, front, body, Sound}
use Rattle.houses.specs.declared.records.Record.{Record}
use Rattle.houses.specs.declared.records.Record.TheVariants.{One, Chain, Star}

never : {A : Type 0} {X E : Type 0} (x : X) (e : E) → Err e ≡ Ok x → A
never x e p = let z : ◌≡◌ {A = ℕ} 0 1 = cc in absurd (omega arith)

-- what passes a test was not refused by it
passed : {X : Type 0} (r : Refusal) (broken : Bool) (x : Result X Refusal) (v : X) → refuse r broken x ≡ Ok v → (broken ≡ false) × (x ≡ Ok v)
passed r true x v e = never v r e
passed r false x v e = (refl, e)

abbrev FitRun : Run → Type 0
FitRun r = (1 ≤ r.length) × (r.length ≤ reach r.medium)

fit_lawful : (r run : Run) → lawful_run r ≡ Some run → FitRun run
fit_lawful r run e = go (fit_run r) refl e
  where
    go : (t : Bool) → fit_run r ≡ t → cond t (Some r) None ≡ Some run → FitRun run
    go true q e =
        let p = and_parts (nat_le 1 r.length) (nat_le r.length (reach r.medium)) q in
        let s : r ≡ run = cc in
        subst FitRun s (leb-true 1 r.length p.0, leb-true r.length (reach r.medium) p.1)
    go false q e = let z : ◌≡◌ {A = ℕ} 0 1 = cc in absurd (omega arith)

fit_read : (m hi lo : ℕ) (run : Run) → run_of m hi lo ≡ Some run → FitRun run
fit_read m hi lo run e = go (m == 0) (m == 1) e
  where
    go : (s t : Bool) → cond s (lawful_run (record { medium = Copper; length = hi * 256 + lo })) (cond t (lawful_run (record { medium = Fibre; length = hi * 256 + lo })) None) ≡ Some run → FitRun run
    go true t e = fit_lawful (record { medium = Copper; length = hi * 256 + lo }) run e
    go false true e = fit_lawful (record { medium = Fibre; length = hi * 256 + lo }) run e
    go false false e = let z : ◌≡◌ {A = ℕ} 0 1 = cc in absurd (omega arith)

-- a record is made with a run that was read
with_some : (o : Option Run) (made : Run → Record) (v : Record) → with_run o made ≡ Ok v → (run : Run) × (o ≡ Some run) × (made run ≡ v)
with_some (Some run) made v e = (run, refl, cc)
with_some None made v e = never v RunOutOfRange e

in_range : (d : ℕ) → above d ≡ false → d < 128
in_range d e = omega (arith, ltb-false 127 d e)

module _ (o : Option Run) (fit : (run : Run) → o ≡ Some run → FitRun run) (r : Record) where
  one_sound : (a b : ℕ) → one_record a b o ≡ Ok r → Sound r
  one_sound a b e =
      let p = passed DeviceOutOfRange (above a || above b) _ r e in
      let devices = or_parts (above a) (above b) p.0 in
      let q = passed SameEnds (a == b) _ r p.1 in
      let w = with_some o (λ x. One (record { a = a; b = b; run = x })) r q.1 in
      let f = fit w.0 w.1 in
      let one : LawfulCable (record { a = a; b = b; run = w.0 }) = (in_range a devices.0, in_range b devices.1, eqb-false a b q.0, f.0, f.1) in
      subst Sound w.2 (omega arith, λ i low. one)

  chain_sound : (f c : ℕ) → chain_record f c o ≡ Ok r → Sound r
  chain_sound f c e =
      let p = passed DeviceOutOfRange (above f) _ r e in
      let q = passed BadChainOrStar (nat_lt c 1 || above (f + c)) _ r p.1 in
      let t = or_parts (nat_lt c 1) (above (f + c)) q.0 in
      let some : 1 ≤ c = ltb-false c 1 t.0 in
      let end : f + c < 128 = in_range (f + c) t.1 in
      let w = with_some o (λ x. Chain (record { first = f; count = c; run = x })) r q.1 in
      let g = fit w.0 w.1 in
      subst Sound w.2 (some, λ i low. (omega arith, omega arith, omega arith, g.0, g.1))

  star_sound : (h f c : ℕ) → star_record h f c o ≡ Ok r → Sound r
  star_sound h f c e =
      let p = passed DeviceOutOfRange (above h || above f) _ r e in
      let devices = or_parts (above h) (above f) p.0 in
      let q = passed BadChainOrStar (nat_lt c 1 || (nat_lt 128 (f + c) || (nat_le f h && nat_lt h (f + c)))) _ r p.1 in
      let t = or_parts (nat_lt c 1) (nat_lt 128 (f + c) || (nat_le f h && nat_lt h (f + c))) q.0 in
      let u = or_parts (nat_lt 128 (f + c)) (nat_le f h && nat_lt h (f + c)) t.1 in
      let some : 1 ≤ c = ltb-false c 1 t.0 in
      let end : f + c ≤ 128 = ltb-false 128 (f + c) u.0 in
      let hub : h < 128 = in_range h devices.0 in
      let w = with_some o (λ x. Star (record { hub = h; first = f; count = c; run = x })) r q.1 in
      let g = fit w.0 w.1 in
      subst Sound w.2 (some, λ i low. (hub, omega arith, no_leaf h f c i low u.1, g.0, g.1))
    where
      no_leaf : (h f c i : ℕ) → i < c → (nat_le f h && nat_lt h (f + c)) ≡ false → h ≢ f + i
      no_leaf h f c i low t e = true≢false (sym (and_from (nat_le f h) (nat_lt h (f + c)) (le-leb f h (omega arith)) (lt-ltb h (f + c) (omega arith))) ∙ t)

-- the record's kind byte and body are there, and the record is sound
pub front_sound : (bs : List ℕ) (r : Record) → front bs ≡ Ok r → Sound r × (suc (body (slice_index bs 0)) ≤ length bs)
front_sound bs r e = go (slice_index bs 0 == 1) (slice_index bs 0 == 2) (slice_index bs 0 == 3) refl refl refl e
  where
    kind_body : (j : ℕ) → (slice_index bs 0 == j) ≡ true → nat_lt (length bs) (suc (body j)) ≡ false → suc (body (slice_index bs 0)) ≤ length bs
    kind_body j t s = let k : slice_index_or bs 0 0 ≡ j = eqb-true (slice_index bs 0) j t in subst (λ n. suc (body n) ≤ length bs) (sym k) (ltb-false (length bs) (suc (body j)) s)

    go : (s t u : Bool) → (slice_index bs 0 == 1) ≡ s → (slice_index bs 0 == 2) ≡ t → (slice_index bs 0 == 3) ≡ u
        → cond s (refuse BodyCutShort (nat_lt (length bs) 6) (one_record (slice_index bs 1) (slice_index bs 2) (run_of (slice_index bs 3) (slice_index bs 4) (slice_index bs 5)))) (
        cond t (refuse BodyCutShort (nat_lt (length bs) 6) (chain_record (slice_index bs 1) (slice_index bs 2) (run_of (slice_index bs 3) (slice_index bs 4) (slice_index bs 5)))) (
        cond u (refuse BodyCutShort (nat_lt (length bs) 7) (star_record (slice_index bs 1) (slice_index bs 2) (slice_index bs 3) (run_of (slice_index bs 4) (slice_index bs 5) (slice_index bs 6)))) (Err UnknownKind))) ≡ Ok r
        → Sound r × (suc (body (slice_index bs 0)) ≤ length bs)
    go true t u k l m e =
        let p = passed BodyCutShort (nat_lt (length bs) 6) _ r e in
        (one_sound (run_of (slice_index bs 3) (slice_index bs 4) (slice_index bs 5)) (fit_read (slice_index bs 3) (slice_index bs 4) (slice_index bs 5)) r (slice_index bs 1) (slice_index bs 2) p.1, kind_body 1 k p.0)
    go false true u k l m e =
        let p = passed BodyCutShort (nat_lt (length bs) 6) _ r e in
        (chain_sound (run_of (slice_index bs 3) (slice_index bs 4) (slice_index bs 5)) (fit_read (slice_index bs 3) (slice_index bs 4) (slice_index bs 5)) r (slice_index bs 1) (slice_index bs 2) p.1, kind_body 2 l p.0)
    go false false true k l m e =
        let p = passed BodyCutShort (nat_lt (length bs) 7) _ r e in
        (star_sound (run_of (slice_index bs 4) (slice_index bs 5) (slice_index bs 6)) (fit_read (slice_index bs 4) (slice_index bs 5) (slice_index bs 6)) r (slice_index bs 1) (slice_index bs 2) (slice_index bs 3) p.1, kind_body 3 m p.0)
    go false false false k l m e = never r UnknownKind e
