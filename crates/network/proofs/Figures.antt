-- The figures are the strengths and the group that they are said to be. Assumes nothing.
use Rattle.std.proofs.Common.{◌≡◌, ℕ, ◌<◌, ◌≤◌, Bool, true, ◌&&◌, eqb, List, map, length, filter, sym, refl, subst, ⊎_elim, arith}
use mathlib.Core.List.Memᴰ
use mathlib.Core.List.{Memᴰ}
use Rattle.std.proofs.lemmas.Bool.{eqb-true, eq-eqb, ne_eqb, and_parts, and_from, and_right, or_left, or_right, or_cases}
use Rattle.std.proofs.lemmas.List.Sums.{count_by-le-length}
use Rattle.network.specs.Sets.{DeviceSet, Split, WeakSplit, Tied, Strength, crosses, crossings}
use Rattle.network.specs.Lists.{Contains, Attains, ListStrength}
use Rattle.network.specs.Marks.{OfDevices, Around}
use Rattle.network.specs.Figures.{every, splits, set_strength, sets_around, strength_of, strongest, group_of, SetStrength, HasStrength, HasGroup}
use Rattle.network.specs.declared.cable.Cable.{Cable}
use Rattle.network.proofs.Counts.{count_le}
use Rattle.network.proofs.Sides.{crosses_belongs, crosses_parts, crosses_from, crossings_wider}
use Rattle.network.proofs.Strengths.{weak_more, exact, list_strength, one_strength}
use Rattle.network.proofs.Unions.{union, union_tied}
use Rattle.network.proofs.Finds.{any_from, any_says, kept_from, kept_says, least_below, least_stands, greatest_above, greatest_stands}
use Rattle.network.proofs.EverySets.{set_stands}
use Rattle.network.proofs.SetTests.{splits_from, splits_says, around_from, around_says}

-- of a side, only what lies in the set matters
crossings_within : (cs : List Cable) (S side : ℕ → Bool) → crossings cs S (λ d. S d && side d) ≤ crossings cs S side
crossings_within cs S side = count_le (crosses S (λ d. S d && side d)) (crosses S side) cs (λ i c st e.
    let b = crosses_belongs S (λ d. S d && side d) c e in
    let r = and_parts (S c.a) (S c.b) b in
    crosses_from S side c b (λ f. crosses_parts S (λ d. S d && side d) c e (cc)))

split_within : (S side : ℕ → Bool) → Split S side → Split S (λ d. S d && side d)
split_within S side s = record {
  left = s.left;
  right = s.right;
  left_in = s.left_in;
  right_in = s.right_in;
  left_side = and_from (S s.left) (side s.left) s.left_in s.left_side;
  right_side = and_right (S s.right) (side s.right) s.right_side;
}

-- one device against the others of the set
split_one : (S : ℕ → Bool) → (set : DeviceSet S) → Split S (eqb set.one)
split_one S set = record {
  left = set.one;
  right = set.other;
  left_in = set.one_in;
  right_in = set.other_in;
  left_side = eq-eqb set.one set.one refl;
  right_side = ne_eqb set.one set.other set.apart;
}

set_strength_below : (cs : List Cable) (S side : ℕ → Bool) → DeviceSet S → Split S side → set_strength cs S ≤ crossings cs S side
unfolding set_strength
set_strength_below cs S side set s =
    let within : ℕ → Bool = λ d. S d && side d in
    let stands = set_stands 128 within (λ d i. set.below d (and_parts (S d) (side d) i).0) in
    let kept = kept_from (splits S) within (every 128) stands (splits_from S within set (split_within S side s)) in
    omega (
      arith,
      least_below (length cs) (crossings cs S within) (map (crossings cs S) (filter (splits S) (every 128))) (Memᴰ.map (crossings cs S) kept),
      crossings_within cs S side,
    )

set_strength_weak : (cs : List Cable) (S : ℕ → Bool) → DeviceSet S → WeakSplit cs S (set_strength cs S)
unfolding set_strength
set_strength_weak cs S set = ⊎_elim
    (λ (e : set_strength cs S ≡ length cs). record {
      side = eqb set.one;
      split = split_one S set;
      few = omega (arith, count_by-le-length (crosses S (eqb set.one)) cs);
    })
    (λ (m : Memᴰ (set_strength cs S) (map (crossings cs S) (filter (splits S) (every 128)))).
    let t = Memᴰ.of_map (crossings cs S) (filter (splits S) (every 128)) m in
    record { side = t.0; split = splits_says S t.0 (kept_says (splits S) t.0 (every 128) t.1).1; few = omega (arith, t.2) })
    (least_stands (length cs) (map (crossings cs S) (filter (splits S) (every 128))))

pub has_set_strength : SetStrength
has_set_strength cs S set = exact cs S (set_strength cs S) (λ side s. set_strength_below cs S side set s) (set_strength_weak cs S set)

one_set_strength : (cs : List Cable) (S : ℕ → Bool) (j k : ℕ) → Strength cs S j → Strength cs S k → j ≡ k
one_set_strength cs S j k s t = omega (arith, s.tied t.side t.split, t.tied s.side s.split, s.attained, t.attained)

pub set_weak : (cs : List Cable) (l : List ℕ) (S : ℕ → Bool) → DeviceSet S → Contains S l → WeakSplit cs S (strength_of cs l)
unfolding strength_of
set_weak cs l S set has =
    let above = greatest_above (set_strength cs S) (map (set_strength cs) (sets_around l)) (Memᴰ.map (set_strength cs) (around_from S l set has)) in
    weak_more cs S (set_strength cs S) (strength_of cs l) above (set_strength_weak cs S set)

strength_around : (cs : List Cable) (l : List ℕ) → 0 < strength_of cs l → Around cs l (strength_of cs l)
unfolding strength_of
strength_around cs l pos =
    let t = Memᴰ.of_map (set_strength cs) (sets_around l) (greatest_stands (map (set_strength cs) (sets_around l)) pos) in
    let a = around_says t.0 l t.1 in
    record { set = t.0; devices = a.0; has = a.1; tied = λ side s. omega (arith, t.2, set_strength_below cs t.0 side a.0 s) }

pub has_strength : HasStrength
has_strength cs l low = list_strength cs l (strength_of cs l) low (set_weak cs l) (strength_around cs l)

pub strength_is : (cs : List Cable) (l : List ℕ) (k : ℕ) → OfDevices l → ListStrength cs l k → k ≡ strength_of cs l
strength_is cs l k low s = one_strength cs l k (strength_of cs l) s (has_strength cs l low)

pub strength_from : (cs : List Cable) (l : List ℕ) (k : ℕ) → OfDevices l → k ≡ strength_of cs l → ListStrength cs l k
strength_from cs l k low e = subst (ListStrength cs l) (sym e) (has_strength cs l low)

-- the group has each set of the list's strength, and nothing else
group_from : (cs : List Cable) (l : List ℕ) (S : ℕ → Bool) → DeviceSet S → Contains S l → Strength cs S (strength_of cs l) → (d : ℕ) → S d ≡ true → group_of cs l d ≡ true
unfolding group_of
group_from cs l S set has s d i =
    let same = one_set_strength cs S (set_strength cs S) (strength_of cs l) (has_set_strength cs S set) s in
    any_from (λ T. strongest cs l T && T d) S (sets_around l) (around_from S l set has) (and_from (strongest cs l S) (S d) (eq-eqb (set_strength cs S) (strength_of cs l) same) i)

group_says : (cs : List Cable) (l : List ℕ) (d : ℕ) → group_of cs l d ≡ true → (a : Attains cs l (strength_of cs l)) × (a.set d ≡ true)
unfolding group_of
group_says cs l d e =
    let t = any_says (λ T. strongest cs l T && T d) (sets_around l) e in
    let a = around_says t.0 l t.1 in
    let r = and_parts (strongest cs l t.0) (t.0 d) t.2 in
    let same = eqb-true (set_strength cs t.0) (strength_of cs l) r.0 in
    (record { set = t.0; devices = a.0; has = a.1; strong = subst (Strength cs t.0) same (has_set_strength cs t.0 a.0) }, r.1)

pub has_group : HasGroup
has_group cs l x low i = record {
  devices = devices;
  has = λ d m. inside top d (top.has d m);
  strong = exact cs G k tied (set_weak cs l G devices (λ d m. inside top d (top.has d m)));
  most = group_from cs l;
}
  where
    k : ℕ
    k = strength_of cs l

    G : ℕ → Bool
    G = group_of cs l

    inside : (a : Attains cs l k) (d : ℕ) → a.set d ≡ true → G d ≡ true
    inside a = group_from cs l a.set a.devices a.has a.strong

    top : Attains cs l k
    top = (has_strength cs l low).attained

    devices : DeviceSet G
    devices = record {
      below = λ d g. let h = group_says cs l d g in h.0.devices.below d h.1;
      one = top.devices.one;
      other = top.devices.other;
      one_in = inside top top.devices.one top.devices.one_in;
      other_in = inside top top.devices.other top.devices.other_in;
      apart = top.devices.apart;
    }

    -- the sets of the two devices that a split parts share x, so their union is tied, and the split parts it
    tied : Tied cs G k
    tied side s =
        let g = group_says cs l s.left s.left_in in
        let h = group_says cs l s.right s.right_in in
        let A = g.0.set in
        let B = h.0.set in
        let parts : Split (union A B) side = record {
          left = s.left;
          right = s.right;
          left_in = or_left (A s.left) (B s.left) g.1;
          right_in = or_right (A s.right) (B s.right) h.1;
          left_side = s.left_side;
          right_side = s.right_side;
        } in
        let both : (d : ℕ) → union A B d ≡ true → G d ≡ true = λ d j. ⊎_elim (λ a. inside g.0 d a) (λ b. inside h.0 d b) (or_cases (A d) (B d) j) in
        omega (arith, union_tied cs A B k x (g.0.has x i) (h.0.has x i) g.0.strong.tied h.0.strong.tied side parts, crossings_wider cs (union A B) G side both)
