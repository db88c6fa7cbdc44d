-- What a judge answers, from a computed test of the sheet or from a fault. Assumes nothing.
use Rattle.std.proofs.Common.{◌≡◌, ℕ, ◌<◌, true, List, Ok, Err, Result, sym, ap, ◌∙◌, subst, inl, inr, ⊎_elim, arith}
use Rattle.std.proofs.lemmas.Bool.{cases_lt}
use Rattle.network.specs.declared.cable.Cable.{Cable}
use Rattle.network.specs.declared.refusal.Refusal.{Refusal}
use Rattle.plan.specs.Tests.{sheet_check, Past}
use Rattle.plan.specs.Judging.{part_of, Sound, Faulty, FaultAt, Verdict, Judges}
use Rattle.figures.proofs.SheetTests.{good_test, good_by_test}

module _ (cs : List Cable) (l : List ℕ) (k : ℕ) (part : ℕ → ℕ) where
  sound_faultless : (p : ℕ) (e : Refusal) → Sound cs l k part p → Faulty cs l k part p e → ⊥
  sound_faultless p e s (inl f) = omega (arith, s.0, f.1)
  sound_faultless p e s (inr f) = f.2 s.1

  one_faulty : (p : ℕ) (e f : Refusal) → Faulty cs l k part p e → Faulty cs l k part p f → e ≡ f
  one_faulty p e f (inl g) (inl h) = g.0 ∙ sym h.0
  one_faulty p e f (inl g) (inr h) = absurd (omega (arith, g.1, h.1))
  one_faulty p e f (inr g) (inl h) = absurd (omega (arith, g.1, h.1))
  one_faulty p e f (inr g) (inr h) = g.0 ∙ sym h.0

  -- the lowest part with a fault is one part
  one_fault : (p q : ℕ) (e f : Refusal) → FaultAt cs l k part p e → FaultAt cs l k part q f → e ≡ f
  one_fault p q e f g h = ⊎_elim
      (λ lt. absurd (sound_faultless p e (h.1 p lt) g.2))
      (λ le. ⊎_elim
      (λ lt. absurd (sound_faultless q f (g.1 q lt) h.2))
      (λ ge. let same : q ≡ p = omega arith in one_faulty p e f g.2 (subst (λ n. Faulty cs l k part n f) same h.2))
      (cases_lt q p))
      (cases_lt p q)

  verdict_told : (d : ℕ) (e : Refusal) → d < 128 → FaultAt cs l k part (part d) e → (r : Result (Unit {0}) Refusal) → Verdict cs l k part r → r ≡ Err e
  verdict_told d e low fault (Ok x) good = absurd (sound_faultless (part d) e (good.few d low, good.small d low) fault.2)
  verdict_told d e low fault (Err f) (p, at) = ap (λ x. Err x) (one_fault p (part d) f e at fault)

module _ (cs : List Cable) (l : List ℕ) (k : ℕ) (bs : List ℕ) (r : Result (Unit {0}) Refusal) (ds : List Cable) (is : ds ≡ cs) (judged : Judges ds l k bs r) where
  over_these : Judges cs l k bs r
  over_these = subst (λ xs. Judges xs l k bs r) is judged

  pub verdict : sheet_check l bs ≡ Ok tt → Verdict cs l k (part_of bs) r
  verdict fit = subst (λ check. Past check (Verdict cs l k (part_of bs)) r) fit over_these.answer

  pub accepted_by_test : sheet_check l bs ≡ Ok tt → good_test cs l k (part_of bs) ≡ true → r ≡ Ok tt
  accepted_by_test fit test = over_these.exactly.1 (fit, good_by_test cs l k (part_of bs) test)

  -- the fault stands in the part of the device d
  pub refused_by_fault : sheet_check l bs ≡ Ok tt → (d : ℕ) (e : Refusal) → d < 128 → FaultAt cs l k (part_of bs) (part_of bs d) e → r ≡ Err e
  refused_by_fault fit d e low fault = verdict_told cs l k (part_of bs) d e low fault r (verdict fit)
