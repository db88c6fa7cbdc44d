-- What stands in a list and in what a test keeps of it; the least, the greatest, and the numbers below a number. Assumes nothing.
use Rattle.std.proofs.Common.{◌≡◌, ℕ, zero, suc, ◌<◌, ◌≤◌, min, max, Bool, true, false, cond, ◌⊎◌, List, [], ◌∷◌, filter, sym, refl, ap, ◌∙◌, subst, inl, inr, ⊎_elim, arith}
use mathlib.Core.List.{Memᴰ}
use Rattle.std.proofs.lemmas.Bool.{false≢true, or_left, or_right, or_cases, cases_lt}
use Rattle.network.specs.Figures.{any, least, greatest, numbers}

module _ {X : Type 0} (x y : X) (zs : List X) where
  front_kept : (b : Bool) → b ≡ true → x ≡ y → Memᴰ x (cond b (y ∷ zs) zs)
  front_kept true e f = mathlib.Core.List.Memᴰ.head f
  front_kept false e f = absurd (false≢true e)

  rest_kept : (b : Bool) → Memᴰ x zs → Memᴰ x (cond b (y ∷ zs) zs)
  rest_kept true m = mathlib.Core.List.Memᴰ.tail m
  rest_kept false m = m

  front_or_rest : (b : Bool) → Memᴰ x (cond b (y ∷ zs) zs) → ((b ≡ true) × (x ≡ y)) ⊎ Memᴰ x zs
  front_or_rest true m = ⊎_elim (λ (f : x ≡ y). inl (refl, f)) (λ (n : Memᴰ x zs). inr n) (mathlib.Core.List.Memᴰ.cases_cons m)
  front_or_rest false m = inr m

module _ {X : Type 0} (p : X → Bool) where
  pub any_from : (x : X) (xs : List X) → Memᴰ x xs → p x ≡ true → any p xs ≡ true
  any_from x [] m e = absurd (mathlib.Core.List.Memᴰ.not-nil m)
  any_from x (y ∷ ys) m e = ⊎_elim
      (λ (f : x ≡ y). or_left (p y) (any p ys) (ap p (sym f) ∙ e))
      (λ (n : Memᴰ x ys). or_right (p y) (any p ys) (any_from x ys n e))
      (mathlib.Core.List.Memᴰ.cases_cons m)

  pub any_says : (xs : List X) → any p xs ≡ true → (x : X) × Memᴰ x xs × (p x ≡ true)
  any_says [] e = absurd (false≢true e)
  any_says (y ∷ ys) e = ⊎_elim
      (λ (f : p y ≡ true). (y, mathlib.Core.List.Memᴰ.head refl, f))
      (λ (f : any p ys ≡ true). let r = any_says ys f in (r.0, mathlib.Core.List.Memᴰ.tail r.1, r.2))
      (or_cases (p y) (any p ys) e)

  pub kept_from : (x : X) (xs : List X) → Memᴰ x xs → p x ≡ true → Memᴰ x (filter p xs)
  kept_from x [] m e = absurd (mathlib.Core.List.Memᴰ.not-nil m)
  kept_from x (y ∷ ys) m e = ⊎_elim
      (λ (f : x ≡ y). front_kept x y (filter p ys) (p y) (ap p (sym f) ∙ e) f)
      (λ (n : Memᴰ x ys). rest_kept x y (filter p ys) (p y) (kept_from x ys n e))
      (mathlib.Core.List.Memᴰ.cases_cons m)

  pub kept_says : (x : X) (xs : List X) → Memᴰ x (filter p xs) → Memᴰ x xs × (p x ≡ true)
  kept_says x [] m = absurd (mathlib.Core.List.Memᴰ.not-nil m)
  kept_says x (y ∷ ys) m = ⊎_elim
      (λ (f : (p y ≡ true) × (x ≡ y)). (mathlib.Core.List.Memᴰ.head f.1, ap p f.1 ∙ f.0))
      (λ (n : Memᴰ x (filter p ys)). let r = kept_says x ys n in (mathlib.Core.List.Memᴰ.tail r.0, r.1))
      (front_or_rest x y (filter p ys) (p y) m)

pub least_below : (k n : ℕ) (ns : List ℕ) → Memᴰ n ns → least k ns ≤ n
least_below k n [] m = absurd (mathlib.Core.List.Memᴰ.not-nil m)
least_below k n (j ∷ ns) m = ⊎_elim
    (λ (e : n ≡ j). omega arith)
    (λ (i : Memᴰ n ns). omega (arith, least_below k n ns i))
    (mathlib.Core.List.Memᴰ.cases_cons m)

pub least_stands : (k : ℕ) (ns : List ℕ) → (least k ns ≡ k) ⊎ Memᴰ (least k ns) ns
least_stands k [] = inl refl
least_stands k (n ∷ ns) = go (cases_lt n (least k ns)) (least_stands k ns)
  where
    go : (n < least k ns) ⊎ (least k ns ≤ n) → (least k ns ≡ k) ⊎ Memᴰ (least k ns) ns → (min n (least k ns) ≡ k) ⊎ Memᴰ (min n (least k ns)) (n ∷ ns)
    go (inl lt) r = inr (mathlib.Core.List.Memᴰ.head (omega arith))
    go (inr le) (inl e) = inl (omega arith)
    go (inr le) (inr m) = let e : least k ns ≡ min n (least k ns) = omega arith in inr (mathlib.Core.List.Memᴰ.tail (subst (λ j. Memᴰ j ns) e m))

pub greatest_above : (n : ℕ) (ns : List ℕ) → Memᴰ n ns → n ≤ greatest ns
greatest_above n [] m = absurd (mathlib.Core.List.Memᴰ.not-nil m)
greatest_above n (j ∷ ns) m = ⊎_elim
    (λ (e : n ≡ j). omega arith)
    (λ (i : Memᴰ n ns). omega (arith, greatest_above n ns i))
    (mathlib.Core.List.Memᴰ.cases_cons m)

pub greatest_stands : (ns : List ℕ) → 0 < greatest ns → Memᴰ (greatest ns) ns
greatest_stands [] pos = absurd (omega arith)
greatest_stands (n ∷ ns) pos = go (cases_lt (greatest ns) n) (greatest_stands ns)
  where
    go : (greatest ns < n) ⊎ (n ≤ greatest ns) → (0 < greatest ns → Memᴰ (greatest ns) ns) → Memᴰ (max n (greatest ns)) (n ∷ ns)
    go (inl lt) r = mathlib.Core.List.Memᴰ.head (omega arith)
    go (inr le) r =
        let e : greatest ns ≡ max n (greatest ns) = omega arith in
        mathlib.Core.List.Memᴰ.tail (subst (λ j. Memᴰ j ns) e (r (omega arith)))

pub number_stands : (n d : ℕ) → d < n → Memᴰ d (numbers n)
unfolding numbers
number_stands zero d h = absurd (omega arith)
number_stands (suc n) d h = ⊎_elim
    (λ (lt : d < n). mathlib.Core.List.Memᴰ.tail (number_stands n d lt))
    (λ (le : n ≤ d). mathlib.Core.List.Memᴰ.head (omega arith))
    (cases_lt d n)

pub any_number : (p : ℕ → Bool) (n d : ℕ) → d < n → p d ≡ true → any p (numbers n) ≡ true
any_number p n d h = any_from p d (numbers n) (number_stands n d h)
