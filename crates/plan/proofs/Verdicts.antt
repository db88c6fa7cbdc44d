-- From the first fault of a sheet to the judge's answer, and what the answer says of every set that contains the list. Assumes nothing.
use Rattle.std.proofs.Common.{◌≡◌, ℕ, suc, ◌<◌, true, false, not, ◌||◌, eqb, List, [], ◌∷◌, length, get_or, Some, None, Ok, Err, Result, sym, refl, ap, ◌∙◌, subst, ap₂, ⊎_elim, arith}
use Rattle.std.proofs.lemmas.List.{get_or_past}
use Rattle.std.proofs.lemmas.Bool.{cases_lt, ltb-false, le-ltb, or_parts, or_from, not-false, eqb-true, eq-eqb}
use Rattle.network.specs.Cables.{above, Lawful}
use Rattle.network.specs.Refusals.{refuse}
use Rattle.network.specs.Sheets.{GoodSheet}
use Rattle.network.specs.declared.cable.Cable.{Cable}
use Rattle.network.specs.declared.refusal.Refusal.{Refusal}
use Rattle.network.specs.declared.refusal.Refusal.TheVariants.{BadCutSheet}
use Rattle.network.proofs.Sheets.{sheet_sound}
use Rattle.plan.specs.Tests.{outside, list_check, ill_formed, sheet_check, Past}
use Rattle.plan.specs.Judging.{part_of, FirstFault, Verdict, Judges, Accepted}
use Rattle.plan.proofs.Checking.{list_passed, list_refused}
use Rattle.plan.proofs.Listing.{in_range}
use Rattle.plan.proofs.Faults.{sound_good, good_faultless}

abbrev Answer : Type 0
Answer = Result (Unit {0}) Refusal

module _ {A : Type 0} (P : Result A Refusal → Type 0) where
  pub past_refused : (check : Answer) (e : Refusal) → check ≡ Err e → Past check P (Err e)
  past_refused check e is = subst (λ x. Past x P (Err e)) (sym is) refl

  pub past_met : (check : Answer) (r : Result A Refusal) → check ≡ Ok tt → P r → Past check P r
  past_met check r is p = subst (λ x. Past x P r) (sym is) p

pub well_formed_long : (bs : List ℕ) → ill_formed bs ≡ false → length bs ≡ 128
well_formed_long bs e = eqb-true (length bs) 128 (not-false (eqb (length bs) 128) (or_parts (not (eqb (length bs) 128)) (outside bs) e).0)

pub parts_low : (bs : List ℕ) → ill_formed bs ≡ false → (d : ℕ) → part_of bs d < 128
parts_low bs e d = ⊎_elim
    (λ lt. omega (arith, ltb-false 127 (get_or bs d 0) (in_range bs d lt (or_parts (not (eqb (length bs) 128)) (outside bs) e).1)))
    (λ le. omega (arith, get_or_past bs d 0 le))
    (cases_lt d (length bs))

none_outside : (bs : List ℕ) → ((d : ℕ) → d < length bs → get_or bs d 0 < 128) → outside bs ≡ false
none_outside [] low = refl
none_outside (b ∷ bs) low = or_from (above b) (outside bs) (le-ltb 127 b (omega (arith, low 0 (omega arith)))) (none_outside bs (λ d h. low (suc d) (omega arith)))

-- the tests before the verdict
module _ (l bs : List ℕ) where
  pub sheet_list : (e : Refusal) → list_check l ≡ Err e → sheet_check l bs ≡ Err e
  sheet_list e is = list_refused l (refuse BadCutSheet (ill_formed bs) (Ok tt)) e is

  pub sheet_bad : list_check l ≡ Ok tt → ill_formed bs ≡ true → sheet_check l bs ≡ Err BadCutSheet
  sheet_bad fit bad = list_passed l (refuse BadCutSheet (ill_formed bs) (Ok tt)) fit ∙ ap (λ b. refuse BadCutSheet b (Ok tt)) bad

  pub sheet_fits : list_check l ≡ Ok tt → ill_formed bs ≡ false → sheet_check l bs ≡ Ok tt
  sheet_fits fit good = list_passed l (refuse BadCutSheet (ill_formed bs) (Ok tt)) fit ∙ ap (λ b. refuse BadCutSheet b (Ok tt)) good

-- what each answer says
module _ (cs : List Cable) (l : List ℕ) (k : ℕ) (bs : List ℕ) (lawful : Lawful cs) where
  never : {X : Type 0} (e : Refusal) → ◌≡◌ {A = Answer} (Err e) (Ok tt) → X
  never e is = let z : ◌≡◌ {A = ℕ} 0 1 = cc in absurd (omega arith)

  -- turned away by a test
  pub judge_tested : (e : Refusal) → sheet_check l bs ≡ Err e → Judges cs l k bs (Err e)
  judge_tested e is = record {
    answer = past_refused (Verdict cs l k (part_of bs)) (sheet_check l bs) e is;
    exactly = (λ ok. never e ok, λ w. never e (sym is ∙ w.0));
    bounds = λ ok. never e ok;
  }

  -- refused with the first fault
  pub judge_faulty : (e : Refusal) → sheet_check l bs ≡ Ok tt → FirstFault cs l k (part_of bs) (Some e) → Judges cs l k bs (Err e)
  judge_faulty e is fault = record {
    answer = past_met (Verdict cs l k (part_of bs)) (sheet_check l bs) (Err e) is fault;
    exactly = (λ ok. never e ok, λ w. absurd (good_faultless cs l k (part_of bs) lawful w.1 fault.0 e fault.1.2));
    bounds = λ ok. never e ok;
  }

  -- accepted
  pub judge_good : sheet_check l bs ≡ Ok tt → ((d : ℕ) → part_of bs d < 128) → FirstFault cs l k (part_of bs) None → Judges cs l k bs (Ok tt)
  judge_good is low sound =
      let good = sound_good cs l k (part_of bs) (λ d b. low d) sound in
      let weak = sheet_sound cs l k (part_of bs) good in
      record {
        answer = past_met (Verdict cs l k (part_of bs)) (sheet_check l bs) (Ok tt) is good;
        exactly = (λ e. (is, good), λ w. refl);
        bounds = λ e. record { weak = weak; none_stronger = λ S j set has strong. let w = weak S set has in omega (arith, strong.tied w.side w.split, w.few) };
      }

-- a good sheet that is well formed is accepted by every judge
pub good_accepted : (cs : List Cable) (l : List ℕ) (k : ℕ) (bs : List ℕ) → list_check l ≡ Ok tt → length bs ≡ 128 → ((d : ℕ) → d < 128 → part_of bs d < 128) → GoodSheet cs l k (part_of bs) → Accepted cs l k bs
good_accepted cs l k bs fit long low good r judged = judged.exactly.1 (sheet_fits l bs fit (ap₂ (λ x y. not x || y) (eq-eqb (length bs) 128 long) (none_outside bs (λ d h. low d (omega arith)))), good)
