-- A good sheet gives each set that contains the list a split that few cables cross. Assumes nothing.
use Rattle.std.proofs.Common.{◌≡◌, ℕ, zero, suc, ◌<◌, ◌≤◌, Bool, true, ◌&&◌, eqb, ltb, ◌⊎◌, List, sym, refl, ◌∙◌, inl, inr, ⊎_elim, arith}
use Rattle.std.proofs.lemmas.Bool.{and_parts, and_from, or_left, or_right, or_cases, lt-ltb, ltb-true, eq-eqb, ne_eqb, eqb-true, cases_eq, cases_lt}
use Rattle.network.specs.Sets.{DeviceSet, Split, WeakSplit, Tied, crosses, crossings}
use Rattle.network.specs.Lists.{Contains, ListStrength}
use Rattle.network.specs.Sheets.{leads_up, leading, Lacks, Lone, GoodSheet}
use Rattle.network.specs.declared.cable.Cable.{Cable}
use Rattle.network.proofs.Counts.{count_le}
use Rattle.network.proofs.Sides.{crosses_belongs, crosses_parts}
use Rattle.network.proofs.Searches.{each_device}
use Rattle.network.proofs.Strengths.{list_strength}

-- the cable leads from part p to a higher part
abbrev pub Up : (part : ℕ → ℕ) → ℕ → Cable → Type 0
Up part p c = ((part c.a ≡ p) × (p < part c.b)) ⊎ ((part c.b ≡ p) × (p < part c.a))

module _ (part : ℕ → ℕ) (p : ℕ) (c : Cable) where
  abbrev over : Bool
  over = eqb (part c.a) p && ltb p (part c.b)

  abbrev back : Bool
  back = eqb (part c.b) p && ltb p (part c.a)

  pub up_says : leads_up part p c ≡ true → Up part p c
  up_says e = ⊎_elim
      (λ l. let r = and_parts (eqb (part c.a) p) (ltb p (part c.b)) l in inl (eqb-true (part c.a) p r.0, ltb-true p (part c.b) r.1))
      (λ l. let r = and_parts (eqb (part c.b) p) (ltb p (part c.a)) l in inr (eqb-true (part c.b) p r.0, ltb-true p (part c.a) r.1))
      (or_cases over back e)

  pub up_from : Up part p c → leads_up part p c ≡ true
  up_from (inl (e, h)) = or_left over back (and_from (eqb (part c.a) p) (ltb p (part c.b)) (eq-eqb (part c.a) p e) (lt-ltb p (part c.b) h))
  up_from (inr (e, h)) = or_right over back (and_from (eqb (part c.b) p) (ltb p (part c.a)) (eq-eqb (part c.b) p e) (lt-ltb p (part c.a) h))

-- the device of the set with the lowest part
pub record Lowest (S : ℕ → Bool) (part : ℕ → ℕ) : Type 0 where
  pub at : ℕ
  pub at_in : S at ≡ true
  pub least : (d : ℕ) → S d ≡ true → part at ≤ part d

-- from a device with a part up to b, down to the lowest
lowest_from : (S : ℕ → Bool) (part : ℕ → ℕ) → DeviceSet S → (b x : ℕ) → S x ≡ true → part x ≤ b → Lowest S part
lowest_from S part set zero x i h = record { at = x; at_in = i; least = λ d j. omega arith }
lowest_from S part set (suc b) x i h = ⊎_elim
    (λ all. record { at = x; at_in = i; least = all })
    (λ (y, j, lt). lowest_from S part set b y j (omega arith))
    (each_device S (λ d. part x ≤ part d) ((y : ℕ) × (S y ≡ true) × (part y < part x)) set
    (λ d j. ⊎_elim (λ lt. inr (d, j, lt)) (λ le. inl le) (cases_lt (part d) (part x))))

pub lowest : (S : ℕ → Bool) (part : ℕ → ℕ) → DeviceSet S → Lowest S part
lowest S part set = lowest_from S part set (part set.one) set.one set.one_in (omega arith)

module _ (cs : List Cable) (S : ℕ → Bool) (part : ℕ → ℕ) (set : DeviceSet S) (low : Lowest S part) where
  abbrev lowest_side : ℕ → Bool
  lowest_side d = eqb (part d) (part low.at)

  -- a cable that crosses from the lowest part leads up
  lowest_up : (c : Cable) → crosses S lowest_side c ≡ true → Up part (part low.at) c
  lowest_up c e = go (cases_eq (part c.a) p) (cases_eq (part c.b) p)
    where
      p : ℕ
      p = part low.at

      in_S : (S c.a ≡ true) × (S c.b ≡ true)
      in_S = and_parts (S c.a) (S c.b) (crosses_belongs S lowest_side c e)

      apart : eqb (part c.a) p ≡ eqb (part c.b) p → ⊥
      apart = crosses_parts S lowest_side c e

      above_a : p ≤ part c.a
      above_a = low.least c.a in_S.0

      above_b : p ≤ part c.b
      above_b = low.least c.b in_S.1

      go : (part c.a ≡ p) ⊎ (part c.a ≡ p → ⊥) → (part c.b ≡ p) ⊎ (part c.b ≡ p → ⊥) → Up part p c
      go (inl f) (inl g) = absurd (apart (eq-eqb (part c.a) p f ∙ sym (eq-eqb (part c.b) p g)))
      go (inl f) (inr n) = inl (f, omega (arith, above_b, n))
      go (inr n) (inl g) = inr (g, omega (arith, above_a, n))
      go (inr n) (inr o) = absurd (apart (ne_eqb (part c.a) p n ∙ sym (ne_eqb (part c.b) p o)))

  -- so few cross the split into the lowest part and the rest
  pub lowest_few : crossings cs S lowest_side ≤ leading cs part (part low.at)
  lowest_few = count_le (crosses S lowest_side) (leads_up part (part low.at)) cs (λ i c st e. up_from part (part low.at) c (lowest_up c e))

  pub lowest_split : (d : ℕ) → S d ≡ true → (part d ≡ part low.at → ⊥) → Split S lowest_side
  lowest_split d i n = record {
    left = low.at;
    right = d;
    left_in = low.at_in;
    right_in = i;
    left_side = eq-eqb (part low.at) (part low.at) refl;
    right_side = ne_eqb (part d) (part low.at) n;
  }

-- a device of the set in another part than p
elsewhere : (S : ℕ → Bool) (part : ℕ → ℕ) (l : List ℕ) (p : ℕ) → DeviceSet S → Contains S l → Lacks part l p ⊎ Lone part p → (d : ℕ) × (S d ≡ true) × (part d ≡ p → ⊥)
elsewhere S part l p set has (inl (d, i, o)) = (d, has d i, o)
elsewhere S part l p set has (inr lone) = ⊎_elim
    (λ e. (set.other, set.other_in, (λ f. set.apart (lone set.one set.other (set.below _ set.one_in) (set.below _ set.other_in) e f))))
    (λ o. (set.one, set.one_in, o))
    (cases_eq (part set.one) p)

pub sheet_sound : (cs : List Cable) (l : List ℕ) (k : ℕ) (part : ℕ → ℕ) → GoodSheet cs l k part
    → (S : ℕ → Bool) → DeviceSet S → Contains S l → WeakSplit cs S k
sheet_sound cs l k part sheet S set has =
    let low = lowest S part set in
    let b : low.at < 128 = set.below low.at low.at_in in
    let e = elsewhere S part l (part low.at) set has (sheet.small low.at b) in
    record {
      side = λ d. eqb (part d) (part low.at);
      split = lowest_split cs S part set low e.0 e.1 e.2;
      few = omega (arith, lowest_few cs S part set low, sheet.few low.at b);
    }

-- with a set that k ties it gives the strength of the list
pub sheet_strength : (cs : List Cable) (l : List ℕ) (k : ℕ) (part : ℕ → ℕ) → GoodSheet cs l k part
    → (S : ℕ → Bool) → DeviceSet S → Contains S l → Tied cs S k → ListStrength cs l k
sheet_strength cs l k part sheet S set has tied = list_strength cs l k
    (λ d m. set.below d (has d m))
    (sheet_sound cs l k part sheet)
    (λ pos. record { set = S; devices = set; has = has; tied = tied })
