-- A plan's answers are the figure: by one strength and one group. Assumes nothing.
use Rattle.std.proofs.Common.{◌≡◌, ℕ, ◌<◌, Bool, true, cond, List, ◌∷◌, length, get_or, replicate, Some, None, Ok, Err, Option, Result, sym, refl, ap, ◌∙◌, subst, ap₂, arith}
use Rattle.network.specs.Lists.{member, ListStrength, Group}
use Rattle.network.specs.Figures.{numbers}
use Rattle.network.specs.declared.cable.Cable.{Cable}
use Rattle.network.specs.declared.refusal.Refusal.{Refusal}
use Rattle.network.proofs.Counts.{count_le}
use Rattle.network.proofs.Strengths.{one_strength, one_group}
use Rattle.plan.specs.Tests.{list_check, buffer_check, Gives}
use Rattle.plan.specs.Questions.{marks, size, StrengthAnswer, GroupIs, GroupAnswer}
use Rattle.figures.specs.Tells.{Tells}
use Rattle.figures.specs.declared.told.Told.{Told}
use Rattle.figures.proofs.Known.{Known, known_test, known_by_test}

-- a call whose test passes is not refused
pub never : {X : Type 0} (check : Result (Unit {0}) Refusal) (e : Refusal) → check ≡ Ok tt → check ≡ Err e → X
never check e p q = let z : ◌≡◌ {A = ℕ} 0 1 = cc in absurd (omega arith)

pub strength_told : (cs : List Cable) (l : List ℕ) (k : ℕ) → 0 < k → ListStrength cs l k → list_check l ≡ Ok tt
    → (r : Result (Option ℕ) Refusal) → StrengthAnswer cs l r → r ≡ Ok (Some k)
strength_told cs l k pos s fit (Ok (Some j)) (is, told) = ap (λ n. Ok (Some n)) (one_strength cs l j k told.strength s)
strength_told cs l k pos s fit (Ok None) (is, told) = absurd (omega (arith, one_strength cs l 0 k told.strength s))
strength_told cs l k pos s fit (Err e) is = never (list_check l) e fit is

pub apart_told : (cs : List Cable) (l : List ℕ) → ListStrength cs l 0 → list_check l ≡ Ok tt
    → (r : Result (Option ℕ) Refusal) → StrengthAnswer cs l r → r ≡ Ok None
apart_told cs l s fit (Ok (Some j)) (is, told) = absurd (told.apart (ap (λ n. Some n) (one_strength cs l j 0 told.strength s)))
apart_told cs l s fit (Ok None) (is, told) = refl
apart_told cs l s fit (Err e) is = never (list_check l) e fit is

-- how a buffer's bytes and the count tell a group
record Marks (g b : List ℕ) (k : ℕ) (r : Result (Option (ℕ × ℕ)) Refusal) : Type 0 where
  group : r ≡ Ok (Some (k, length g))
  bytes : (d : ℕ) → d < 128 → get_or b d 0 ≡ cond (member g d) 1 0

same_size : (S T : ℕ → Bool) → ((d : ℕ) → S d ≡ T d) → size S ≡ size T
same_size S T same = omega (
  arith,
  count_le S T (numbers 128) (λ i d st e. sym (same d) ∙ e),
  count_le T S (numbers 128) (λ i d st e. same d ∙ e),
)

group_told : (cs : List Cable) (l : List ℕ) (k : ℕ) (g : List ℕ) (n : ℕ) → Known cs l k g → buffer_check l n ≡ Ok tt → size (member g) ≡ length g
    → (b : List ℕ) (r : Result (Option (ℕ × ℕ)) Refusal) → Gives (buffer_check l n) (GroupIs cs l b) r → Marks g b k r
group_told cs l k g n known fit whole b (Ok (Some (j, m))) (is, told) =
    let e = one_strength cs l j k told.strength known.strength in
    let same = one_group cs l k (marks b) (member g) (subst (λ x. Group cs l x (marks b)) e told.group) known.group in
    record {
      group = ap₂ (λ x y. Ok (Some (x, y))) e (told.count ∙ same_size (marks b) (member g) same ∙ whole);
      bytes = λ d low. told.bytes d low ∙ ap (λ t. cond t 1 0) (same d);
    }
group_told cs l k g n known fit whole b (Ok None) (is, told) = absurd (omega (arith, one_strength cs l 0 k told.0 known.strength, known.above))
group_told cs l k g n known fit whole b (Err e) is = never (buffer_check l n) e fit is

pub figure_tells : (cs : List Cable) (x : ℕ) (l : List ℕ) (k : ℕ) (g : List ℕ) (part : ℕ → ℕ) → known_test cs (x ∷ l) k g part ≡ true
    → list_check (x ∷ l) ≡ Ok tt → buffer_check (x ∷ l) 128 ≡ Ok tt → size (member g) ≡ length g
    → (ds : List Cable) → ds ≡ cs → (t : Told) → StrengthAnswer ds (x ∷ l) t.strength → GroupAnswer ds (x ∷ l) (replicate 128 0) t.group t.bytes → Tells cs (x ∷ l) t k g
figure_tells cs x l k g part test fit room whole ds is t strength group =
    let known = known_by_test cs x l k g part test in
    let s = subst (λ xs. StrengthAnswer xs (x ∷ l) t.strength) is strength in
    let a = subst (λ xs. GroupAnswer xs (x ∷ l) (replicate 128 0) t.group t.bytes) is group in
    let m = group_told cs (x ∷ l) k g 128 known room whole t.bytes t.group a.answer in
    record {
      strong = known.strength;
      together = known.group;
      strength = strength_told cs (x ∷ l) k known.above known.strength fit t.strength s;
      group = m.group;
      bytes = m.bytes;
    }
