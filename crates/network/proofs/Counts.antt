-- Counts compared test by test, over the elements that stand in the list. Assumes nothing.
use Rattle.std.proofs.Common.{◌≡◌, ℕ, zero, suc, ◌+◌, ◌≤◌, Bool, true, false, cond, List, [], ◌∷◌, Some, count_by, refl, arith}
use Rattle.std.specs.List.{slice_get}
use Rattle.std.proofs.lemmas.List.Sums.{sum_by-cons}
use Rattle.std.proofs.lemmas.Bool.{false≢true}

pub one_le : (x y : Bool) → (x ≡ true → y ≡ true) → cond x 1 0 ≤ cond y 1 0
one_le true true h = omega arith
one_le true false h = absurd (false≢true (h refl))
one_le false true h = omega arith
one_le false false h = omega arith

module _ {X : Type 0} where
  pub count_cons : (f : X → Bool) (c : X) (cs : List X) → count_by f (c ∷ cs) ≡ cond (f c) 1 0 + count_by f cs
  count_cons f c cs = sum_by-cons (λ x. cond (f x) 1 0) c cs

  pub count_le : (f g : X → Bool) (cs : List X) → ((i : ℕ) (c : X) → slice_get cs i ≡ Some c → f c ≡ true → g c ≡ true) → count_by f cs ≤ count_by g cs
  count_le f g [] h = omega arith
  count_le f g (c ∷ cs) h =
      omega (arith, count_cons f c cs, count_cons g c cs, one_le (f c) (g c) (h zero c refl), count_le f g cs (λ i. h (suc i)))

  pub count_none : (f : X → Bool) (cs : List X) → ((i : ℕ) (c : X) → slice_get cs i ≡ Some c → f c ≡ true → ⊥) → count_by f cs ≤ 0
  count_none f [] h = omega arith
  count_none f (c ∷ cs) h =
      omega (arith, count_cons f c cs, one_le (f c) false (λ e. absurd (h zero c refl e)), count_none f cs (λ i. h (suc i)))
