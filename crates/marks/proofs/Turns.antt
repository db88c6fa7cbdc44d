-- Turns over arrays, from one part to single devices. Assumes nothing.
use Rattle.std.proofs.Common.{◌≡◌, ℕ, suc, ◌+◌, ◌<◌, ◌≤◌, max, Bool, true, false, ◌&&◌, eqb, ltb, List, length, set, replicate, sym, refl, ap, ◌∙◌, subst, ⊎_elim, arith}
use mathlib.Core.Path.{fun_ext}
use Rattle.std.proofs.lemmas.List.{get_or-replicate, get_or-set_same, get_or-set_other, get_or_past, length-set, length-replicate}
use Rattle.std.proofs.lemmas.Bool.{and_from, and_left, and_right, le-ltb, lt-ltb, eq-eqb, ne_eqb, cases_Bool, cases_lt, cases_eq, cond-true, cond-false}
use Rattle.network.specs.Cables.{Lawful}
use Rattle.network.specs.Sets.{DeviceSet, Tied}
use Rattle.network.specs.Sheets.{Lone}
use Rattle.network.specs.Marks.{Marks}
use Rattle.network.specs.declared.cable.Cable.{Cable}
use Rattle.network.proofs.Parts.{inside_says, inside_from}
use Rattle.cuts.specs.Finding.{Finds}
use Rattle.cuts.specs.Members.{set_of}
use Rattle.cuts.specs.declared.devices.Devices.{Devices}
use Rattle.cuts.proofs.Membership.{held_past}
use Rattle.marks.specs.Shedding.{inside, Shear, Turn, Marking, Singles, Numbered}
use Rattle.marks.specs.State.{number, moved, State, Done}
use Rattle.marks.proofs.Sheds.{shed_none, shed_more, shed_marks, marks_all}
use Rattle.marks.proofs.Numberings.{numbered_none, numbered_more, numbered_few}

pub zeros : (n d : ℕ) → number (replicate n 0) d ≡ 0
zeros n d = ⊎_elim (λ lt. get_or-replicate n d 0 0 lt) (λ le. get_or_past (replicate n 0) d 0 (omega (arith, length-replicate {A = ℕ} n 0))) (cases_lt d n)

-- where a device goes
pub moved_to : (p q : ℕ) (s : Bool) (r : ℕ) → r ≡ p → s ≡ true → moved p q s r ≡ q
moved_to p q s r e t = cond-true (eqb r p && s) q r (and_from (eqb r p) s (eq-eqb r p e) t)

pub moved_side : (p q : ℕ) (s : Bool) (r : ℕ) → s ≡ false → moved p q s r ≡ r
moved_side p q s r f = cond-false (eqb r p && s) q r (and_right (eqb r p) s f)

pub moved_off : (p q : ℕ) (s : Bool) (r : ℕ) → (r ≡ p → ⊥) → moved p q s r ≡ r
moved_off p q s r n = cond-false (eqb r p && s) q r (and_left (eqb r p) s (ne_eqb r p n))

module _ (cs : List Cable) (part floor mark : List ℕ) (p q f m : ℕ) (side : ℕ → Bool) (st : State cs part floor mark q) (sh : Shear cs (inside (number part) p) f m side) where
  -- p is one of the parts
  pub part_low : p < q
  part_low =
      let r = inside_says (number part) p sh.split.left sh.split.left_in in
      omega (arith, st.parts.low sh.split.left r.0, r.1)

  turn_by : (part' bottom bottom' : ℕ → ℕ) → ((d : ℕ) → d < 128 → part' d ≡ moved p q (side d) (number part d))
      → bottom' p ≡ m → bottom' q ≡ m → ((r : ℕ) → (r ≡ p → ⊥) → (r ≡ q → ⊥) → bottom' r ≡ bottom r)
      → Turn (number part) bottom p q m side part' bottom'
  turn_by part' bottom bottom' move at_p at_q others = record {
    fresh = λ d b e. omega (arith, st.parts.low d b, e);
    gone = λ d b e t. move d b ∙ moved_to p q (side d) (number part d) e t;
    left = λ d b e o. move d b ∙ moved_side p q (side d) (number part d) o ∙ e;
    same = λ d b n. move d b ∙ moved_off p q (side d) (number part d) n;
    floor_p = at_p;
    floor_q = at_q;
    floors = others;
  }

  -- a part that a cut parts leaves room for one part more
  pub room : q < 128
  room = numbered_few part' (suc q) (numbered_more (number part) (λ _. m) part' (λ _. m) p q m side st.parts sh.split
      (turn_by part' (λ _. m) (λ _. m) (λ d b. refl) refl refl (λ r np nq. refl)))
    where
      part' : ℕ → ℕ
      part' d = moved p q (side d) (number part d)

pub state_none : (cs : List Cable) (part floor mark : List ℕ) → ((d : ℕ) → number part d ≡ 0) → number floor 0 ≡ 0 → State cs part floor mark 1
state_none cs part floor mark one bare = record {
  shed = shed_none cs (number part) (number floor) (λ d b. one d) bare;
  marked = λ i c st apart. absurd (apart (one c.a ∙ sym (one c.b)));
  parts = numbered_none (number part) (λ d b. one d);
}

pub state_more : (cs : List Cable) (part part' floor mark mark' : List ℕ) (p q m : ℕ) (side : ℕ → Bool) → length floor ≡ 128 → Lawful cs
    → State cs part floor mark q → Shear cs (inside (number part) p) (number floor p) m side
    → ((d : ℕ) → d < 128 → number part' d ≡ moved p q (side d) (number part d))
    → Marking cs (inside (number part) p) m side (number mark) (number mark')
    → State cs part' (set (set floor p m) q m) mark' (q + 1)
state_more cs part part' floor mark mark' p q m side long lawful st sh move marking = record {
  shed = shed_more cs (number part) (number floor) (number part') (number floor') p q m side st.shed sh turn;
  marked = shed_marks cs (number part) (number floor) (number part') (number floor') p q m side st.shed sh turn (number mark) (number mark') lawful st.marked marking;
  parts = let more : suc q ≡ q + 1 = omega arith in
      subst (Numbered (number part')) more (numbered_more (number part) (number floor) (number part') (number floor') p q m side st.parts sh.split turn);
}
  where
    floor' : List ℕ
    floor' = set (set floor p m) q m

    low : p < q
    low = part_low cs part floor mark p q (number floor p) m side st sh

    high : q < 128
    high = room cs part floor mark p q (number floor p) m side st sh

    turn : Turn (number part) (number floor) p q m side (number part') (number floor')
    turn = turn_by cs part floor mark p q (number floor p) m side st sh (number part') (number floor) (number floor') move
        (get_or-set_other (set floor p m) q p m 0 (omega (arith, low)) ∙ get_or-set_same floor p m 0 (omega (arith, low, high)))
        (get_or-set_same (set floor p m) q m 0 (omega (arith, high, length-set floor p m)))
        (λ r np nq. get_or-set_other (set floor p m) q r m 0 nq ∙ get_or-set_other floor p r m 0 np)

-- the devices of part p are that part as a set
pub inside_is : (part : List ℕ) (p : ℕ) (all : Devices) → ((d : ℕ) → d < 128 → set_of all d ≡ eqb (number part d) p) → set_of all ≡ inside (number part) p
inside_is part p all is = fun_ext (λ d. ⊎_elim
    (λ lt. is d lt ∙ sym (ap (λ t. t && eqb (number part d) p) (lt-ltb d 128 lt)))
    (λ le. held_past all d le ∙ sym (and_left (ltb d 128) (eqb (number part d) p) (le-ltb d 128 le)))
    (cases_lt d 128))

-- what a finder finds of those devices, it finds of the part
pub found_inside : (cs : List Cable) (part : List ℕ) (p f k : ℕ) (all : Devices) (side : ℕ → Bool) → ((d : ℕ) → d < 128 → set_of all d ≡ eqb (number part d) p)
    → Finds cs (set_of all) f k side → Finds cs (inside (number part) p) f k side
found_inside cs part p f k all side is r = subst (λ S. Finds cs S f k side) (inside_is part p all is) r

-- what a finder finds serves to shed
pub finds_shear : (cs : List Cable) (S : ℕ → Bool) (f k m : ℕ) (side : ℕ → Bool) → m ≡ max f k → Finds cs S f k side → Shear cs S f m side
finds_shear cs S f k m side is r = record {
  split = r.split;
  few = omega (arith, r.attained, is);
  above = omega (arith, is);
  tied = λ h. let e : k ≡ m = omega (arith, is) in subst (λ j. Tied cs S j) e (r.least (omega (arith, is)));
}

-- a part that is no set of two devices has one at most
lone_none : (part : ℕ → ℕ) (p : ℕ) → (DeviceSet (inside part p) → ⊥) → Lone part p
lone_none part p none x y bx yb ex ey = ⊎_elim (λ e. e)
    (λ (n : x ≡ y → ⊥). absurd (none (record {
      below = λ d i. (inside_says part p d i).0;
      one = x;
      other = y;
      one_in = inside_from part p x bx ex;
      other_in = inside_from part p y yb ey;
      apart = n;
    })))
    (cases_eq x y)

pub uncut_lone : (part : List ℕ) (p : ℕ) (all : Devices) → ((d : ℕ) → d < 128 → set_of all d ≡ eqb (number part d) p) → (DeviceSet (set_of all) → ⊥) → Lone (number part) p
uncut_lone part p all is none = lone_none (number part) p (λ s. none (subst (λ S. DeviceSet S) (sym (inside_is part p all is)) s))

pub done_more : (part : ℕ → ℕ) (p : ℕ) → Done part p → Lone part p → Done part (p + 1)
done_more part p done lone r h = ⊎_elim (λ (lt : r < p). done r lt) (λ (le : p ≤ r). let e : p ≡ r = omega arith in subst (Lone part) e lone) (cases_lt r p)

-- a turn leaves the parts below p as they are
pub done_turn : (part part' : ℕ → ℕ) (p q : ℕ) (side : ℕ → Bool) → p < q → ((d : ℕ) → d < 128 → part' d ≡ moved p q (side d) (part d)) → Done part p → Done part' p
done_turn part part' p q side low move done r h x y bx yb ex ey =
    done r h x y bx yb (stayed x bx ex) (stayed y yb ey)
  where
    stayed : (d : ℕ) → d < 128 → part' d ≡ r → part d ≡ r
    stayed d b e = ⊎_elim
        (λ (at : part d ≡ p). ⊎_elim
        (λ (t : side d ≡ true). absurd (let z = move d b ∙ moved_to p q (side d) (part d) at t in omega arith))
        (λ (f : side d ≡ false). sym (moved_side p q (side d) (part d) f) ∙ sym (move d b) ∙ e)
        (cases_Bool (side d)))
        (λ (off : part d ≡ p → ⊥). sym (moved_off p q (side d) (part d) off) ∙ sym (move d b) ∙ e)
        (cases_eq (part d) p)

pub done_singles : (part : ℕ → ℕ) (n p : ℕ) → Numbered part n → n ≤ p → Done part p → Singles part
done_singles part n p parts h done x y bx yb e = done (part x) (omega (arith, parts.low x bx)) x y bx yb refl (sym e)

module _ (cs : List Cable) (part floor mark : List ℕ) (n : ℕ) (st : State cs part floor mark n) where
  pub state_few : n ≤ 128
  state_few = numbered_few (number part) n st.parts

  pub all_marked : Lawful cs → Singles (number part) → Marks cs (number mark)
  all_marked lawful single = marks_all cs (number part) (number mark) lawful st.marked single
