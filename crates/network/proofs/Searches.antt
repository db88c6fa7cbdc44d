-- A search through numbers, the devices of a set or the places of a list: each passes, or one gives what was looked for. Assumes nothing.
use Rattle.std.proofs.Common.{◌≡◌, ℕ, zero, suc, ◌<◌, Bool, true, ◌⊎◌, List, [], ◌∷◌, Some, refl, subst, inl, inr, ⊎_elim, arith}
use Rattle.std.specs.List.{slice_get}
use Rattle.std.proofs.lemmas.Bool.{both_ways, cases_Bool, cases_lt}
use Rattle.network.specs.Sets.{DeviceSet}

pub each_below : (A : ℕ → Type 0) (B : Type 0) → ((d : ℕ) → A d ⊎ B) → (n : ℕ) → ((d : ℕ) → d < n → A d) ⊎ B
each_below A B f zero = inl (λ d h. absurd (omega arith))
each_below A B f (suc n) = ⊎_elim (λ all. ⊎_elim (λ here. inl (up_to all here)) (λ b. inr b) (f n)) (λ b. inr b) (each_below A B f n)
  where
    up_to : ((d : ℕ) → d < n → A d) → A n → (d : ℕ) → d < suc n → A d
    up_to all here d h = ⊎_elim (λ lt. all d lt) (λ le. let e : n ≡ d = omega arith in subst A e here) (cases_lt d n)

pub each_device : (S : ℕ → Bool) (A : ℕ → Type 0) (B : Type 0) → DeviceSet S → ((d : ℕ) → S d ≡ true → A d ⊎ B) → ((d : ℕ) → S d ≡ true → A d) ⊎ B
each_device S A B set f = ⊎_elim (λ all. inl (λ d i. all d (set.below d i) i)) (λ b. inr b) (each_below (λ d. S d ≡ true → A d) B try 128)
  where
    try : (d : ℕ) → (S d ≡ true → A d) ⊎ B
    try d = ⊎_elim
        (λ i. ⊎_elim (λ a. inl (λ _. a)) (λ b. inr b) (f d i))
        (λ o. inl (λ i. absurd (both_ways (S d) o i)))
        (cases_Bool (S d))

pub each_place : {X : Type 0} (A : ℕ → X → Type 0) (B : Type 0) (xs : List X) → ((i : ℕ) (x : X) → slice_get xs i ≡ Some x → A i x ⊎ B) → ((i : ℕ) (x : X) → slice_get xs i ≡ Some x → A i x) ⊎ B
each_place A B [] f = inl (λ i x st. let z : ◌≡◌ {A = ℕ} 0 1 = cc in absurd (omega arith))
each_place {X} A B (y ∷ ys) f = ⊎_elim
    (λ here. ⊎_elim (λ rest. inl (all here rest)) (λ b. inr b) (each_place (λ i. A (suc i)) B ys (λ i. f (suc i))))
    (λ b. inr b)
    (f zero y refl)
  where
    all : A zero y → ((i : ℕ) (x : X) → slice_get ys i ≡ Some x → A (suc i) x) → (i : ℕ) (x : X) → slice_get (y ∷ ys) i ≡ Some x → A i x
    all here rest zero x st = let e : y ≡ x = cc in subst (A zero) e here
    all here rest (suc i) x st = rest i x st
