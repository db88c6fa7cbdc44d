-- Lists by place: what a list that is made from a function, or joined from two, has at a place, and when it is lawful.
-- Assumes nothing.
use Rattle.std.proofs.Common.{◌≡◌, ℕ, zero, suc, ◌+◌, ◌-◌, ◌<◌, ◌≤◌, List, [], ◌∷◌, ◌++◌, map, length, Some, None, Option, refl, ap, ◌∙◌, subst, arith}
use Rattle.std.specs.List.{range_with_len, slice_get}
use Rattle.network.specs.Cables.{LawfulCable, Lawful}
use Rattle.network.specs.declared.cable.Cable.{Cable}

abbrev pub mapped : {X Y : Type 0} → (X → Y) → Option X → Option Y
mapped f (Some x) = Some (f x)
mapped f None = None

module _ {X : Type 0} where
  pub nth_map : {Y : Type 0} (f : X → Y) (xs : List X) (k : ℕ) → slice_get (map f xs) k ≡ mapped f (slice_get xs k)
  nth_map f [] k = refl
  nth_map f (x ∷ xs) zero = refl
  nth_map f (x ∷ xs) (suc k) = nth_map f xs k

  pub nth_counted : (f : ℕ → X) (a n k : ℕ) → k < n → slice_get (map f (range_with_len a n)) k ≡ Some (f (a + k))
  nth_counted f a zero k h = absurd (omega arith)
  nth_counted f a (suc n) zero h = ap (λ i. Some (f i)) (omega arith)
  nth_counted f a (suc n) (suc k) h = nth_counted f (a + 1) n k (omega arith) ∙ ap (λ i. Some (f i)) (omega arith)

  pub nth_counted_past : (f : ℕ → X) (a n k : ℕ) → n ≤ k → slice_get (map f (range_with_len a n)) k ≡ None
  nth_counted_past f a zero k h = refl
  nth_counted_past f a (suc n) zero h = absurd (omega arith)
  nth_counted_past f a (suc n) (suc k) h = nth_counted_past f (a + 1) n k (omega arith)

  pub nth_left : (xs ys : List X) (k : ℕ) → k < length xs → slice_get (xs ++ ys) k ≡ slice_get xs k
  nth_left [] ys k h = absurd (omega arith)
  nth_left (x ∷ xs) ys zero h = refl
  nth_left (x ∷ xs) ys (suc k) h = nth_left xs ys k (omega arith)

  pub nth_right : (xs ys : List X) (k : ℕ) → length xs ≤ k → slice_get (xs ++ ys) k ≡ slice_get ys (k - length xs)
  nth_right [] ys k h = ap (slice_get ys) (omega arith)
  nth_right (x ∷ xs) ys zero h = absurd (omega arith)
  nth_right (x ∷ xs) ys (suc k) h = nth_right xs ys k (omega arith) ∙ ap (slice_get ys) (omega arith)

never_some : {A : Type 0} {X : Type 0} (x : X) → None ≡ Some x → A
never_some x e = let z : ◌≡◌ {A = ℕ} 0 1 = cc in absurd (omega arith)

pub lawful_none : Lawful []
lawful_none k c e = never_some c e

pub lawful_map : (f : Cable → Cable) → ((c : Cable) → LawfulCable c → LawfulCable (f c)) → (cs : List Cable) → Lawful cs → Lawful (map f cs)
lawful_map f keeps [] h k c e = never_some c e
lawful_map f keeps (d ∷ cs) h zero c e = let q : f d ≡ c = cc in subst LawfulCable q (keeps d (h zero d refl))
lawful_map f keeps (d ∷ cs) h (suc k) c e = lawful_map f keeps cs (λ i x. h (suc i) x) k c e

pub lawful_counted : (f : ℕ → Cable) (a n : ℕ) → ((i : ℕ) → a ≤ i → i < a + n → LawfulCable (f i)) → Lawful (map f (range_with_len a n))
lawful_counted f a zero h k c e = never_some c e
lawful_counted f a (suc n) h zero c e = let q : f a ≡ c = cc in subst LawfulCable q (h a (omega arith) (omega arith))
lawful_counted f a (suc n) h (suc k) c e = lawful_counted f (a + 1) n (λ i p q. h i (omega arith) (omega arith)) k c e

pub lawful_append : (xs ys : List Cable) → Lawful xs → Lawful ys → Lawful (xs ++ ys)
lawful_append [] ys p q k c e = q k c e
lawful_append (x ∷ xs) ys p q zero c e = p zero c e
lawful_append (x ∷ xs) ys p q (suc k) c e = lawful_append xs ys (λ i d. p (suc i) d) q k c e

pub lawful_push : (cs : List Cable) (c : Cable) → Lawful cs → LawfulCable c → Lawful (cs ++ c ∷ [])
lawful_push cs c p q = lawful_append cs (c ∷ []) p only
  where
    only : Lawful (c ∷ [])
    only zero d e = let s : c ≡ d = cc in subst LawfulCable s q
    only (suc k) d e = never_some d e
