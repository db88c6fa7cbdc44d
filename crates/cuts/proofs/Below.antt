-- What is below i + 1 is i, or is below i.
use Rattle.std.proofs.Common.{◌≡◌, ℕ, ◌+◌, ◌<◌, ◌⊎◌, inl, inr, ⊎_elim, arith}
use Rattle.std.proofs.lemmas.Bool.{cases_lt}

pub last_or_below : (k i : ℕ) → k < i + 1 → (k ≡ i) ⊎ (k < i)
last_or_below k i h = ⊎_elim (λ a. inr a) (λ a. inl (omega arith)) (cases_lt k i)
