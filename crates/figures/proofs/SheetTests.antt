-- A cut sheet is good if a computed test over its devices says so; and how a sheet is told by naming its higher parts. Assumes nothing.
--   each p xs             p holds of each element
--   parts n gs            the devices of the first list of gs are part n, those of the next n + 1, and so on; all others are part 0
--   lacks_test part l p   part p lacks a device that the list names
--   lone_test part p      part p has one device at most
--   good_test cs l k part the sheet is good for the list at k
use Rattle.std.proofs.Common.{◌≡◌, ℕ, suc, ◌<◌, ◌≤◌, Bool, true, cond, not, ◌&&◌, ◌||◌, eqb, leb, List, [], ◌∷◌, count_by, sym, ap, ◌∙◌, inl, inr, ⊎_elim, arith}
use mathlib.Core.List.Memᴰ
use mathlib.Core.List.{Memᴰ}
use Rattle.std.proofs.lemmas.Bool.{false≢true, and_parts, or_cases, not-true, eqb-false, eq-eqb, leb-true, cases_eq}
use Rattle.network.specs.Lists.{member}
use Rattle.network.specs.Figures.{any, numbers}
use Rattle.network.specs.Sheets.{leading, Lacks, Lone, GoodSheet}
use Rattle.network.specs.declared.cable.Cable.{Cable}
use Rattle.network.proofs.Counts.{one_le, count_cons}
use Rattle.network.proofs.Finds.{number_stands}
use Rattle.network.proofs.Members.{here, there}

abbrev pub each : {X : Type 0} → (X → Bool) → List X → Bool
each p [] = true
each p (x ∷ xs) = p x && each p xs

abbrev pub parts : ℕ → List (List ℕ) → ℕ → ℕ
parts n [] d = 0
parts n (g ∷ gs) d = cond (member g d) n (parts (suc n) gs d)

abbrev pub lacks_test : (part : ℕ → ℕ) → List ℕ → ℕ → Bool
lacks_test part l p = any (λ d. not (eqb (part d) p)) l

abbrev pub lone_test : (part : ℕ → ℕ) → ℕ → Bool
lone_test part p = leb (count_by (λ d. eqb (part d) p) (numbers 128)) 1

abbrev pub sound_test : List Cable → List ℕ → ℕ → (part : ℕ → ℕ) → ℕ → Bool
sound_test cs l k part p = leb (leading cs part p) k && (lacks_test part l p || lone_test part p)

abbrev pub good_test : List Cable → List ℕ → ℕ → (part : ℕ → ℕ) → Bool
good_test cs l k part = each (λ d. sound_test cs l k part (part d)) (numbers 128)

pub each_says : {X : Type 0} (p : X → Bool) (xs : List X) → each p xs ≡ true → (x : X) → Memᴰ x xs → p x ≡ true
each_says p [] e x m = absurd (Memᴰ.not-nil m)
each_says p (y ∷ ys) e x m =
    let r = and_parts (p y) (each p ys) e in
    ⊎_elim (λ (f : x ≡ y). ap p f ∙ r.0) (λ (n : Memᴰ x ys). each_says p ys r.1 x n) (Memᴰ.cases_cons m)

lacks_says : (part : ℕ → ℕ) (l : List ℕ) (p : ℕ) → lacks_test part l p ≡ true → Lacks part l p
lacks_says part [] p e = absurd (false≢true e)
lacks_says part (x ∷ l) p e = ⊎_elim
    (λ n. (x, here x l, eqb-false (part x) p (not-true (eqb (part x) p) n)))
    (λ m. let r = lacks_says part l p m in (r.0, there x r.0 l r.1, r.2))
    (or_cases (not (eqb (part x) p)) (any (λ d. not (eqb (part d) p)) l) e)

module _ {X : Type 0} (f : X → Bool) where
  counted_one : (x : X) (xs : List X) → Memᴰ x xs → f x ≡ true → 1 ≤ count_by f xs
  counted_one x [] m i = absurd (Memᴰ.not-nil m)
  counted_one x (y ∷ ys) m i = ⊎_elim
      (λ (e : x ≡ y). omega (arith, count_cons f y ys, one_le true (f y) (λ h. ap f (sym e) ∙ i)))
      (λ (n : Memᴰ x ys). omega (arith, count_cons f y ys, counted_one x ys n i))
      (Memᴰ.cases_cons m)

  counted_two : (x y : X) (xs : List X) → Memᴰ x xs → Memᴰ y xs → f x ≡ true → f y ≡ true → (x ≡ y → ⊥) → 2 ≤ count_by f xs
  counted_two x y [] m n i j apart = absurd (Memᴰ.not-nil m)
  counted_two x y (z ∷ zs) m n i j apart = ⊎_elim
      (λ (e : x ≡ z). ⊎_elim
      (λ (g : y ≡ z). absurd (apart (e ∙ sym g)))
      (λ (t : Memᴰ y zs). omega (arith, count_cons f z zs, one_le true (f z) (λ h. ap f (sym e) ∙ i), counted_one y zs t j))
      (Memᴰ.cases_cons n))
      (λ (s : Memᴰ x zs). ⊎_elim
      (λ (g : y ≡ z). omega (arith, count_cons f z zs, one_le true (f z) (λ h. ap f (sym g) ∙ j), counted_one x zs s i))
      (λ (t : Memᴰ y zs). omega (arith, count_cons f z zs, counted_two x y zs s t i j apart))
      (Memᴰ.cases_cons n))
      (Memᴰ.cases_cons m)

lone_says : (part : ℕ → ℕ) (p : ℕ) → lone_test part p ≡ true → Lone part p
lone_says part p e x y bx by ex ey = ⊎_elim
    (λ same. same)
    (λ apart. absurd (omega (
      arith,
      leb-true (count_by (λ d. eqb (part d) p) (numbers 128)) 1 e,
      counted_two (λ d. eqb (part d) p) x y (numbers 128) (number_stands 128 x bx) (number_stands 128 y by) (eq-eqb (part x) p ex) (eq-eqb (part y) p ey) apart,
    )))
    (cases_eq x y)

pub good_by_test : (cs : List Cable) (l : List ℕ) (k : ℕ) (part : ℕ → ℕ) → good_test cs l k part ≡ true → GoodSheet cs l k part
good_by_test cs l k part e = record {
  few = λ d b. leb-true (leading cs part (part d)) k (at d b).0;
  small = λ d b. ⊎_elim
      (λ m. inl (lacks_says part l (part d) m))
      (λ m. inr (lone_says part (part d) m))
      (or_cases (lacks_test part l (part d)) (lone_test part (part d)) (at d b).1);
}
  where
    at : (d : ℕ) → d < 128 → (leb (leading cs part (part d)) k ≡ true) × ((lacks_test part l (part d) || lone_test part (part d)) ≡ true)
    at d b = and_parts (leb (leading cs part (part d)) k) (lacks_test part l (part d) || lone_test part (part d))
        (each_says (λ x. sound_test cs l k part (part x)) (numbers 128) e d (number_stands 128 d b))
