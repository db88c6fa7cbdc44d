-- Two sets that share a device: a split of the union splits one of them. Assumes nothing.
use Rattle.std.proofs.Common.{◌≡◌, ℕ, ◌≤◌, Bool, true, ◌||◌, ◌⊎◌, sym, ◌∙◌, inl, inr, ⊎_elim, arith}
use Rattle.std.proofs.lemmas.Bool.{or_left, or_right, or_cases}
use Rattle.network.specs.Sets.{DeviceSet, Split, crossings}
use Rattle.network.specs.Laws.{UnionTied}
use Rattle.network.proofs.Sides.{same_or, split_apart, split_differs, crossings_wider}

abbrev pub union : (S T : ℕ → Bool) → ℕ → Bool
union S T d = S d || T d

pub union_devices : (S T : ℕ → Bool) → DeviceSet S → DeviceSet T → DeviceSet (union S T)
union_devices S T s t = record {
  below = λ d i. ⊎_elim (λ l. s.below d l) (λ r. t.below d r) (or_cases (S d) (T d) i);
  one = s.one;
  other = s.other;
  one_in = or_left (S s.one) (T s.one) s.one_in;
  other_in = or_left (S s.other) (T s.other) s.other_in;
  apart = s.apart;
}

pub union_tied : UnionTied
union_tied cs S T k z zs zt s t side split = go (same_or (side z) (side split.left))
  where
    by_S : Split S side → k ≤ crossings cs (union S T) side
    by_S p = omega (arith, s side p, crossings_wider cs S (union S T) side (λ d i. or_left (S d) (T d) i))

    by_T : Split T side → k ≤ crossings cs (union S T) side
    by_T p = omega (arith, t side p, crossings_wider cs T (union S T) side (λ d i. or_right (S d) (T d) i))

    -- a device of the union on the other side from z
    by : (x : ℕ) → union S T x ≡ true → (side z ≡ side x → ⊥) → k ≤ crossings cs (union S T) side
    by x i n = ⊎_elim (λ l. by_S (split_apart S side z x zs l n)) (λ r. by_T (split_apart T side z x zt r n)) (or_cases (S x) (T x) i)

    go : (side z ≡ side split.left) ⊎ (side z ≡ side split.left → ⊥) → k ≤ crossings cs (union S T) side
    go (inl e) = by split.right split.right_in (λ f. split_differs (union S T) side split (sym e ∙ f))
    go (inr n) = by split.left split.left_in n
