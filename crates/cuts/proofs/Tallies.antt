-- Sums over a list, compared term by term.
use Rattle.std.proofs.Common.{◌≡◌, ℕ, ◌+◌, ◌≤◌, List, [], ◌∷◌, sum_by, refl, arith}
use Rattle.std.specs.List.{AllByRecursion}
use Rattle.std.proofs.lemmas.List.Sums.{sum_by-cons}

pub all_of : {X : Type 0} (P : X → Type 0) → ((x : X) → P x) → (xs : List X) → AllByRecursion P xs
all_of P h [] = tt
all_of P h (x ∷ xs) = (h x, all_of P h xs)

pub sum_by_same : {X : Type 0} (f g : X → ℕ) (xs : List X) → AllByRecursion (λ x. f x ≡ g x) xs → sum_by f xs ≡ sum_by g xs
sum_by_same f g [] h = refl
sum_by_same f g (x ∷ xs) h = omega (arith, sum_by-cons f x xs, sum_by-cons g x xs, h.0, sum_by_same f g xs h.1)

module _ {X : Type 0} where
  pub sum_by_zero : (f : X → ℕ) → ((x : X) → f x ≡ 0) → (xs : List X) → sum_by f xs ≡ 0
  sum_by_zero f e [] = refl
  sum_by_zero f e (x ∷ xs) = omega (arith, sum_by-cons f x xs, e x, sum_by_zero f e xs)

  pub sum_by_mono : (f h : X → ℕ) → ((x : X) → f x ≤ h x) → (xs : List X) → sum_by f xs ≤ sum_by h xs
  sum_by_mono f h e [] = omega arith
  sum_by_mono f h e (x ∷ xs) = omega (arith, sum_by-cons f x xs, sum_by-cons h x xs, e x, sum_by_mono f h e xs)

  pub sum_by_plus : (f g h : X → ℕ) → ((x : X) → f x ≡ g x + h x) → (xs : List X) → sum_by f xs ≡ sum_by g xs + sum_by h xs
  sum_by_plus f g h e [] = refl
  sum_by_plus f g h e (x ∷ xs) =
      omega (arith, sum_by-cons f x xs, sum_by-cons g x xs, sum_by-cons h x xs, e x, sum_by_plus f g h e xs)

  pub sum_by_le_plus : (f g h : X → ℕ) → ((x : X) → f x + g x ≤ h x) → (xs : List X) → sum_by f xs + sum_by g xs ≤ sum_by h xs
  sum_by_le_plus f g h e [] = omega arith
  sum_by_le_plus f g h e (x ∷ xs) =
      omega (arith, sum_by-cons f x xs, sum_by-cons g x xs, sum_by-cons h x xs, e x, sum_by_le_plus f g h e xs)

  pub sum_by_twice_le : (f j g h : X → ℕ) → ((x : X) → f x + (j x + j x) ≤ g x + h x) → (xs : List X)
      → sum_by f xs + (sum_by j xs + sum_by j xs) ≤ sum_by g xs + sum_by h xs
  sum_by_twice_le f j g h e [] = omega arith
  sum_by_twice_le f j g h e (x ∷ xs) =
      omega (arith, sum_by-cons f x xs, sum_by-cons j x xs, sum_by-cons g x xs, sum_by-cons h x xs, e x, sum_by_twice_le f j g h e xs)
