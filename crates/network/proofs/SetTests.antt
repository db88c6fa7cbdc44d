-- The tests on sets say what the statements do. Assumes nothing.
use Rattle.std.proofs.Common.{◌≡◌, ℕ, ◌<◌, Bool, true, not, ◌&&◌, eqb, List, [], ◌∷◌, refl}
use mathlib.Core.List.{Memᴰ}
use Rattle.std.proofs.lemmas.Bool.{not-true, not_from_false, eqb-false, ne_eqb, and_parts, and_from}
use Rattle.network.specs.Sets.{DeviceSet, Split}
use Rattle.network.specs.Lists.{Contains}
use Rattle.network.specs.Figures.{any, numbers, every, splits, several, contains, sets_around}
use Rattle.network.proofs.Members.{here, there, none_has, more_has}
use Rattle.network.proofs.Finds.{any_says, any_number, kept_from, kept_says}
use Rattle.network.proofs.EverySets.{set_stands, set_low}

pub splits_from : (S side : ℕ → Bool) → DeviceSet S → Split S side → splits S side ≡ true
unfolding splits
splits_from S side set s = and_from (any on (numbers 128)) (any off (numbers 128))
    (any_number on 128 s.left (set.below s.left s.left_in) (and_from (S s.left) (side s.left) s.left_in s.left_side))
    (any_number off 128 s.right (set.below s.right s.right_in) (and_from (S s.right) (not (side s.right)) s.right_in (not_from_false (side s.right) s.right_side)))
  where
    on : ℕ → Bool
    on d = S d && side d

    off : ℕ → Bool
    off d = S d && not (side d)

pub splits_says : (S side : ℕ → Bool) → splits S side ≡ true → Split S side
unfolding splits
splits_says S side e =
    let on : ℕ → Bool = λ d. S d && side d in
    let off : ℕ → Bool = λ d. S d && not (side d) in
    let r = and_parts (any on (numbers 128)) (any off (numbers 128)) e in
    let x = any_says on (numbers 128) r.0 in
    let y = any_says off (numbers 128) r.1 in
    let i = and_parts (S x.0) (side x.0) x.2 in
    let j = and_parts (S y.0) (not (side y.0)) y.2 in
    record { left = x.0; right = y.0; left_in = i.0; right_in = j.0; left_side = i.1; right_side = not-true (side y.0) j.1 }

pub several_from : (S : ℕ → Bool) → DeviceSet S → several S ≡ true
unfolding several
several_from S set =
    let other : ℕ → ℕ → Bool = λ d e. S e && not (eqb d e) in
    let one = set.one in
    any_number (λ d. S d && any (other d) (numbers 128)) 128 one (set.below one set.one_in) (and_from (S one) (any (other one) (numbers 128)) set.one_in
    (any_number (other one) 128 set.other (set.below set.other set.other_in)
    (and_from (S set.other) (not (eqb one set.other)) set.other_in (not_from_false (eqb one set.other) (ne_eqb one set.other set.apart)))))

pub several_says : (S : ℕ → Bool) → ((d : ℕ) → S d ≡ true → d < 128) → several S ≡ true → DeviceSet S
unfolding several
several_says S low e =
    let other : ℕ → ℕ → Bool = λ d e. S e && not (eqb d e) in
    let x = any_says (λ d. S d && any (other d) (numbers 128)) (numbers 128) e in
    let i = and_parts (S x.0) (any (other x.0) (numbers 128)) x.2 in
    let y = any_says (other x.0) (numbers 128) i.1 in
    let j = and_parts (S y.0) (not (eqb x.0 y.0)) y.2 in
    record { below = low; one = x.0; other = y.0; one_in = i.0; other_in = j.0; apart = eqb-false x.0 y.0 (not-true (eqb x.0 y.0) j.1) }

pub contains_from : (S : ℕ → Bool) (l : List ℕ) → Contains S l → contains S l ≡ true
contains_from S [] has = refl
contains_from S (x ∷ l) has = and_from (S x) (contains S l) (has x (here x l)) (contains_from S l (λ d m. has d (there x d l m)))

pub contains_says : (S : ℕ → Bool) (l : List ℕ) → contains S l ≡ true → Contains S l
contains_says S [] e = none_has S
contains_says S (x ∷ l) e = let r = and_parts (S x) (contains S l) e in more_has S x l r.0 (contains_says S l r.1)

pub around_from : (S : ℕ → Bool) (l : List ℕ) → DeviceSet S → Contains S l → Memᴰ S (sets_around l)
unfolding sets_around
around_from S l set has = kept_from (λ T. several T && contains T l) S (every 128) (set_stands 128 S set.below)
    (and_from (several S) (contains S l) (several_from S set) (contains_from S l has))

pub around_says : (S : ℕ → Bool) (l : List ℕ) → Memᴰ S (sets_around l) → DeviceSet S × Contains S l
unfolding sets_around
around_says S l m =
    let r = kept_says (λ T. several T && contains T l) S (every 128) m in
    let t = and_parts (several S) (contains S l) r.1 in
    (several_says S (set_low 128 S r.0) t.0, contains_says S l t.1)
