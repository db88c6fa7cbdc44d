-- What it is to cross a split, to part a set, and to have the same devices. Assumes nothing.
use Rattle.std.proofs.Common.{◌≡◌, ℕ, ◌≤◌, Bool, true, false, ◌⊎◌, List, sym, refl, ◌∙◌, inl, inr}
use Rattle.std.proofs.lemmas.Bool.{true≢false, false≢true, and_parts, and_from, cases_Bool}
use Rattle.network.specs.Sets.{Split, belongs, differ, crosses, crossings}
use Rattle.network.specs.declared.cable.Cable.{Cable}
use Rattle.network.proofs.Counts.{count_le}

-- tests that pass together are equal
pub same_test : (x y : Bool) → (x ≡ true → y ≡ true) → (y ≡ true → x ≡ true) → x ≡ y
same_test true true f g = refl
same_test true false f g = sym (f refl)
same_test false true f g = g refl
same_test false false f g = refl

pub same_or : (x y : Bool) → (x ≡ y) ⊎ (x ≡ y → ⊥)
same_or true true = inl refl
same_or true false = inr true≢false
same_or false true = inr false≢true
same_or false false = inl refl

pub differ_differs : (x y : Bool) → differ x y ≡ true → x ≡ y → ⊥
differ_differs true true e f = false≢true e
differ_differs true false e f = true≢false f
differ_differs false true e f = false≢true f
differ_differs false false e f = false≢true e

pub differ_from : (x y : Bool) → (x ≡ y → ⊥) → differ x y ≡ true
differ_from true true h = absurd (h refl)
differ_from true false h = refl
differ_from false true h = refl
differ_from false false h = absurd (h refl)

module _ (S side : ℕ → Bool) (c : Cable) where
  pub crosses_belongs : crosses S side c ≡ true → belongs S c ≡ true
  crosses_belongs e = (and_parts (belongs S c) (differ (side c.a) (side c.b)) e).0

  pub crosses_parts : crosses S side c ≡ true → side c.a ≡ side c.b → ⊥
  crosses_parts e = differ_differs (side c.a) (side c.b) (and_parts (belongs S c) (differ (side c.a) (side c.b)) e).1

  pub crosses_from : belongs S c ≡ true → (side c.a ≡ side c.b → ⊥) → crosses S side c ≡ true
  crosses_from i n = and_from (belongs S c) (differ (side c.a) (side c.b)) i (differ_from (side c.a) (side c.b) n)

pub belongs_wider : (S T : ℕ → Bool) → ((d : ℕ) → S d ≡ true → T d ≡ true) → (c : Cable) → belongs S c ≡ true → belongs T c ≡ true
belongs_wider S T h c e =
    let r = and_parts (S c.a) (S c.b) e in
    and_from (T c.a) (T c.b) (h c.a r.0) (h c.b r.1)

-- a larger set has no fewer crossings
pub crossings_wider : (cs : List Cable) (S T side : ℕ → Bool) → ((d : ℕ) → S d ≡ true → T d ≡ true) → crossings cs S side ≤ crossings cs T side
crossings_wider cs S T side h = count_le (crosses S side) (crosses T side) cs
    (λ i c st e. crosses_from T side c (belongs_wider S T h c (crosses_belongs S side c e)) (crosses_parts S side c e))

-- two devices of the set on different sides
pub split_apart : (S side : ℕ → Bool) (x y : ℕ) → S x ≡ true → S y ≡ true → (side x ≡ side y → ⊥) → Split S side
split_apart S side x y i j n = go (cases_Bool (side x)) (cases_Bool (side y))
  where
    go : (side x ≡ true) ⊎ (side x ≡ false) → (side y ≡ true) ⊎ (side y ≡ false) → Split S side
    go (inl e) (inl f) = absurd (n (e ∙ sym f))
    go (inl e) (inr f) = record { left = x; right = y; left_in = i; right_in = j; left_side = e; right_side = f }
    go (inr e) (inl f) = record { left = y; right = x; left_in = j; right_in = i; left_side = f; right_side = e }
    go (inr e) (inr f) = absurd (n (e ∙ sym f))

pub split_differs : (S side : ℕ → Bool) → (s : Split S side) → side s.left ≡ side s.right → ⊥
split_differs S side s e = true≢false (sym s.left_side ∙ e ∙ s.right_side)
