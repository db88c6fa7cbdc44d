-- Parts, floors, and the marks that cuts give. Assumes nothing.
use Rattle.std.proofs.Common.{◌≡◌, ℕ, ◌<◌, ◌≤◌, Bool, true, false, cond, ◌⊎◌, List, [], ◌∷◌, sym, ap, ◌∙◌, subst, inl, inr, ⊎_elim, arith}
use Rattle.std.proofs.lemmas.Bool.{both_ways, and_parts, and_from, cases_Bool, cases_lt, cases_eq, cond-true, cond-false}
use Rattle.network.specs.Cables.{Lawful}
use Rattle.network.specs.Sets.{DeviceSet, WeakSplit, crosses}
use Rattle.network.specs.Lists.{member, Contains, ListStrength, Mark, ends}
use Rattle.network.specs.Marks.{Marks}
use Rattle.network.specs.declared.cable.Cable.{Cable}
use Rattle.network.proofs.Sides.{same_or, crosses_belongs, crosses_from, crossings_wider, split_apart}
use Rattle.network.proofs.Members.{here, there, two_has}
use Rattle.network.proofs.Strengths.{weak_more, tied_less, list_strength}
use Rattle.network.proofs.Searches.{each_device}
use Rattle.network.proofs.Parts.{inside_says, inside_from, inside_devices}
use Rattle.marks.specs.Shedding.{inside, Over, Floored, Shed, Shear, Turn, MarkedApart, Marking, Singles}

pub shed_none : (cs : List Cable) (part floor : ℕ → ℕ) → ((d : ℕ) → d < 128 → part d ≡ 0) → floor 0 ≡ 0 → Shed cs part floor
shed_none cs part floor one bare d b = record {
  held = λ pos. absurd (omega (arith, ap floor (one d b), bare));
  weak = λ S set x y ix iy ex n. absurd (n (one y (set.below y iy) ∙ sym (one d b)));
}

pub floored_at : (cs : List Cable) (part floor : ℕ → ℕ) → Shed cs part floor → (p d : ℕ) → d < 128 → part d ≡ p → Floored cs part p (floor p)
floored_at cs part floor shed p d b e = subst (λ r. Floored cs part r (floor r)) e (shed d b)

module _ (cs : List Cable) (part : ℕ → ℕ) (p f m : ℕ) (side : ℕ → Bool) (fl : Floored cs part p f) (s : Shear cs (inside part p) f m side) where
  -- all of part p lies in a set that the new floor ties
  pub over_shear : 0 < m → Over cs part p m
  over_shear pos = ⊎_elim new old (cases_lt f m)
    where
      old : m ≤ f → Over cs part p m
      old le =
          let o = fl.held (omega arith) in
          record { set = o.set; devices = o.devices; all = o.all; tied = tied_less cs o.set m f le o.tied }

      new : f < m → Over cs part p m
      new lt = record { set = inside part p; devices = inside_devices part p side s.split; all = inside_from part p; tied = s.tied lt }

  -- a set that reaches out of part p, or over its two sides, has a split that no more than the new floor cross
  pub parted_weak : (S : ℕ → Bool) → DeviceSet S → (x y : ℕ) → S x ≡ true → S y ≡ true → part x ≡ p → (part y ≡ p → side x ≡ side y → ⊥) → WeakSplit cs S m
  parted_weak S set x y ix iy ex apart = ⊎_elim within (λ w. w) (each_device S (λ d. part d ≡ p) (WeakSplit cs S m) set out)
    where
      out : (d : ℕ) → S d ≡ true → (part d ≡ p) ⊎ WeakSplit cs S m
      out d i = ⊎_elim (λ e. inl e) (λ n. inr (weak_more cs S f m s.above (fl.weak S set x d ix i ex n))) (cases_eq (part d) p)

      within : ((d : ℕ) → S d ≡ true → part d ≡ p) → WeakSplit cs S m
      within all = record {
        side = side;
        split = split_apart S side x y ix iy (apart (all y iy));
        few = omega (arith, crossings_wider cs S (inside part p) side (λ d i. inside_from part p d (set.below d i) (all d i)), s.few);
      }

-- the mark of a cut is the strength of each list of devices of the part that are not all on one side
pub shed_lists : (cs : List Cable) (part floor : ℕ → ℕ) (p m : ℕ) (side : ℕ → Bool) → Shed cs part floor → Shear cs (inside part p) (floor p) m side
    → (l : List ℕ) → Contains (inside part p) l → (x y : ℕ) → member l x ≡ true → member l y ≡ true → (side x ≡ side y → ⊥) → ListStrength cs l m
shed_lists cs part floor p m side shed s l has x y mx my apart = list_strength cs l m
    (λ d i. (inside_says part p d (has d i)).0)
    (λ S set h. parted_weak cs part p (floor p) m side fl s S set x y (h x mx) (h y my) at_x.1 (λ _. apart))
    (λ pos. let o = over_shear cs part p (floor p) m side fl s pos in
    record { set = o.set; devices = o.devices; has = λ d i. let r = inside_says part p d (has d i) in o.all d r.0 r.1; tied = o.tied })
  where
    at_x : (x < 128) × (part x ≡ p)
    at_x = inside_says part p x (has x mx)

    fl : Floored cs part p (floor p)
    fl = floored_at cs part floor shed p x at_x.0 at_x.1

module _ (cs : List Cable) (part floor part' floor' : ℕ → ℕ) (p q m : ℕ) (side : ℕ → Bool) (shed : Shed cs part floor) (s : Shear cs (inside part p) (floor p) m side)
    (turn : Turn part floor p q m side part' floor') where
  fl : Floored cs part p (floor p)
  fl = let r = inside_says part p s.split.left s.split.left_in in floored_at cs part floor shed p s.split.left r.0 r.1

  -- a device of the old part p is in p or q after the turn, by its side
  turned_same : (x y : ℕ) → x < 128 → y < 128 → part x ≡ p → part y ≡ p → side x ≡ side y → part' x ≡ part' y
  turned_same x y bx yb ex ey e = ⊎_elim
      (λ t. turn.gone x bx ex t ∙ sym (turn.gone y yb ey (sym e ∙ t)))
      (λ t. turn.left x bx ex t ∙ sym (turn.left y yb ey (sym e ∙ t)))
      (cases_Bool (side x))

  in_either : (d : ℕ) → d < 128 → part d ≡ p → (part' d ≡ p) ⊎ (part' d ≡ q)
  in_either d b e = ⊎_elim (λ t. inr (turn.gone d b e t)) (λ f. inl (turn.left d b e f)) (cases_Bool (side d))

  -- and only such a device is
  was_in : (r d : ℕ) → (r ≡ p) ⊎ (r ≡ q) → d < 128 → part' d ≡ r → part d ≡ p
  was_in r d c b e = ⊎_elim (λ h. h) (λ n. absurd (go c n)) (cases_eq (part d) p)
    where
      go : (r ≡ p) ⊎ (r ≡ q) → (part d ≡ p → ⊥) → ⊥
      go (inl h) n = n (sym (turn.same d b n) ∙ e ∙ h)
      go (inr h) n = turn.fresh d b (sym (turn.same d b n) ∙ e ∙ h)

  floor_of : (r : ℕ) → (r ≡ p) ⊎ (r ≡ q) → floor' r ≡ m
  floor_of r (inl e) = ap floor' e ∙ turn.floor_p
  floor_of r (inr e) = ap floor' e ∙ turn.floor_q

  -- one of the two new parts
  turned : (r : ℕ) → (r ≡ p) ⊎ (r ≡ q) → Floored cs part' r (floor' r)
  turned r e = subst (λ f. Floored cs part' r f) (sym (floor_of r e)) (record {
    held = λ pos.
        let o = over_shear cs part p (floor p) m side fl s pos in
        record { set = o.set; devices = o.devices; all = λ d b f. o.all d b (was_in r d e b f); tied = o.tied };
    weak = λ S set x y ix iy ex n. parted_weak cs part p (floor p) m side fl s S set x y ix iy (was_in r x e (set.below x ix) ex)
        (λ ey g. n (sym (turned_same x y (set.below x ix) (set.below y iy) (was_in r x e (set.below x ix) ex) ey g) ∙ ex));
  })

  -- another part
  same_part : (r d : ℕ) → (r ≡ p → ⊥) → (r ≡ q → ⊥) → d < 128 → part' d ≡ r → part d ≡ r
  same_part r d np nq b e = ⊎_elim
      (λ h. absurd (⊎_elim (λ i. np (sym e ∙ i)) (λ i. nq (sym e ∙ i)) (in_either d b h)))
      (λ n. sym (turn.same d b n) ∙ e)
      (cases_eq (part d) p)

  other : (r : ℕ) → (r ≡ p → ⊥) → (r ≡ q → ⊥) → Floored cs part r (floor r) → Floored cs part' r (floor' r)
  other r np nq old = subst (λ f. Floored cs part' r f) (sym (turn.floors r np nq)) (record {
    held = λ pos.
        let o = old.held pos in
        record { set = o.set; devices = o.devices; all = λ d b f. o.all d b (same_part r d np nq b f); tied = o.tied };
    weak = λ S set x y ix iy ex n. old.weak S set x y ix iy (same_part r x np nq (set.below x ix) ex)
        (λ ey. n (turn.same y (set.below y iy) (λ f. np (sym ey ∙ f)) ∙ ey));
  })

  pub shed_more : Shed cs part' floor'
  shed_more d b = ⊎_elim
      (λ e. turned (part' d) (in_either d b e))
      (λ n. let e = turn.same d b n in
      other (part' d) (λ f. n (sym e ∙ f)) (λ f. turn.fresh d b (sym e ∙ f)) (floored_at cs part floor shed (part' d) d b (sym e)))
      (cases_eq (part d) p)

  -- the cables between the two sides have their marks
  pub shed_marks : (mark mark' : ℕ → ℕ) → Lawful cs → MarkedApart cs part mark → Marking cs (inside part p) m side mark mark' → MarkedApart cs part' mark'
  shed_marks mark mark' lawful marked marking i c st apart = subst (λ k. Mark cs c k) (sym (marking i c st)) (⊎_elim on off (cases_Bool crossing))
    where
      crossing : Bool
      crossing = crosses (inside part p) side c

      low : (c.a < 128) × (c.b < 128)
      low = let l = lawful i c st in (l.0, l.1)

      on : crossing ≡ true → Mark cs c (cond crossing m (mark i))
      on t =
          let b = and_parts (inside part p c.a) (inside part p c.b) (crosses_belongs (inside part p) side c t) in
          subst (λ k. Mark cs c k) (sym (cond-true crossing m (mark i) t))
          (shed_lists cs part floor p m side shed s (ends c) (two_has (inside part p) c.a c.b b.0 b.1) c.a c.b
          (here c.a (c.b ∷ [])) (there c.a c.b (c.b ∷ []) (here c.b []))
          (λ e. apart (turned_same c.a c.b low.0 low.1 (inside_says part p c.a b.0).1 (inside_says part p c.b b.1).1 e)))

      -- it was between two parts before the turn
      off : crossing ≡ false → Mark cs c (cond crossing m (mark i))
      off f = subst (λ k. Mark cs c k) (sym (cond-false crossing m (mark i) f)) (marked i c st (λ e. apart (joined e)))
        where
          within : part c.a ≡ p → part c.b ≡ p → part' c.a ≡ part' c.b
          within ea eb = ⊎_elim
              (λ e. turned_same c.a c.b low.0 low.1 ea eb e)
              (λ n. absurd (both_ways crossing f (crosses_from (inside part p) side c (and_from (inside part p c.a) (inside part p c.b) (inside_from part p c.a low.0 ea) (inside_from part p c.b low.1 eb)) n)))
              (same_or (side c.a) (side c.b))

          joined : part c.a ≡ part c.b → part' c.a ≡ part' c.b
          joined e = ⊎_elim
              (λ ea. within ea (sym e ∙ ea))
              (λ n. turn.same c.a low.0 n ∙ e ∙ sym (turn.same c.b low.1 (λ g. n (e ∙ g))))
              (cases_eq (part c.a) p)

-- and all cables are marked
pub marks_all : (cs : List Cable) (part mark : ℕ → ℕ) → Lawful cs → MarkedApart cs part mark → Singles part → Marks cs mark
marks_all cs part mark lawful marked single i c st =
    let l = lawful i c st in
    marked i c st (λ e. l.2 (single c.a c.b l.0 l.1 e))
