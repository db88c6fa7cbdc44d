-- The list's own sheet: parts that cuts shed from the core lead up by few cables, and the last core is parted or lone. Assumes nothing.
use Rattle.std.proofs.Common.{◌≡◌, ℕ, suc, ◌<◌, ◌≤◌, Bool, true, false, ◌⊎◌, List, Some, sym, ◌∙◌, subst, inl, inr, ⊎_elim, arith}
use Rattle.std.specs.List.{slice_get}
use Rattle.std.proofs.lemmas.Bool.{true≢false, false≢true, and_from, cases_Bool, cases_lt, cases_eq}
use Rattle.network.specs.Cables.{Lawful}
use Rattle.network.specs.Sets.{Strength, crosses, crossings}
use Rattle.network.specs.Lists.{member, ListStrength}
use Rattle.network.specs.Marks.{OfDevices}
use Rattle.network.specs.Sheets.{inside, leads_up, leading, Lone, GoodSheet}
use Rattle.network.specs.OwnSheets.{Own, Step}
use Rattle.network.specs.declared.cable.Cable.{Cable}
use Rattle.network.proofs.Counts.{count_le, count_none}
use Rattle.network.proofs.Sides.{crosses_from}
use Rattle.network.proofs.Strengths.{list_at_least}
use Rattle.network.proofs.Parts.{inside_from, inside_devices}
use Rattle.network.proofs.Sheets.{up_says, up_from}

pub own_none : (cs : List Cable) (l : List ℕ) (k : ℕ) (part : ℕ → ℕ) → OfDevices l → ((d : ℕ) → d < 128 → part d ≡ 0) → Own cs l k part 0
own_none cs l k part devices one = record { devices = devices; listed = λ d m. one d (devices d m); high = λ d b. omega (arith, one d b); few = λ r h. absurd (omega arith) }

-- the core contains the list, so its least cut is no more than the list's strength
pub own_cut : (cs : List Cable) (l : List ℕ) (k : ℕ) (part : ℕ → ℕ) (n c : ℕ) → ListStrength cs l k → Own cs l k part n
    → (s : Strength cs (inside part n) c) → crossings cs (inside part n) s.side ≤ k
own_cut cs l k part n c strength own s = omega (
  arith,
  s.attained,
  list_at_least cs l c k strength (inside part n) (inside_devices part n s.side s.split) (λ d m. inside_from part n d (own.devices d m) (own.listed d m)) s.tied,
)

-- the highest part leads up by none
few_top : (cs : List Cable) (part : ℕ → ℕ) (n k : ℕ) → Lawful cs → ((d : ℕ) → d < 128 → part d ≤ n) → leading cs part n ≤ k
few_top cs part n k lawful high = omega (
  arith,
  count_none (leads_up part n) cs (λ i c st e. let l = lawful i c st in
      ⊎_elim (λ u. omega (arith, u.1, high c.b l.1)) (λ u. omega (arith, u.1, high c.a l.0)) (up_says part n c e)),
)

-- where few lead up from each part below the highest, few do from each
few_all : (cs : List Cable) (part : ℕ → ℕ) (n k : ℕ) → Lawful cs → ((d : ℕ) → d < 128 → part d ≤ n) → ((r : ℕ) → r < n → leading cs part r ≤ k) → (d : ℕ) → d < 128 → leading cs part (part d) ≤ k
few_all cs part n k lawful high few d b = ⊎_elim
    (λ lt. few (part d) lt)
    (λ le. let e : n ≡ part d = omega (arith, high d b) in subst (λ m. leading cs part m ≤ k) e (few_top cs part n k lawful high))
    (cases_lt (part d) n)

-- a core of one device ends the sheet
pub own_lone : (cs : List Cable) (l : List ℕ) (k : ℕ) (part : ℕ → ℕ) (n : ℕ) → Lawful cs → Own cs l k part n → (x : ℕ) → member l x ≡ true → Lone part n → GoodSheet cs l k part
own_lone cs l k part n lawful own x mx lone = record {
  few = few_all cs part n k lawful own.high own.few;
  small = λ d b. ⊎_elim
      (λ e. inr (subst (λ p. Lone part p) (sym e) lone))
      (λ ne. inl (x, mx, (λ f. ne (sym f ∙ own.listed x mx))))
      (cases_eq (part d) n);
}

module _ (cs : List Cable) (l : List ℕ) (k : ℕ) (part part' : ℕ → ℕ) (n : ℕ) (side : ℕ → Bool) (lawful : Lawful cs) (own : Own cs l k part n)
    (cut : crossings cs (inside part n) side ≤ k) (step : Step part n side part') where
  -- where a device goes
  goes : (d : ℕ) → d < 128 → ((part d ≡ n) × (side d ≡ true) × (part' d ≡ suc n)) ⊎ (((part d ≡ n) × (side d ≡ false) × (part' d ≡ n)) ⊎ ((part d < n) × (part' d ≡ part d)))
  goes d b = ⊎_elim
      (λ e. ⊎_elim (λ t. inl (e, t, step.raised d b e t)) (λ f. inr (inl (e, f, step.left d b e f))) (cases_Bool (side d)))
      (λ ne. inr (inr (omega (arith, own.high d b), step.others d b ne)))
      (cases_eq (part d) n)

  high' : (d : ℕ) → d < 128 → part' d ≤ suc n
  high' d b = omega (arith, goes d b)

  -- from a lower part
  lower : (r x y : ℕ) → r < n → x < 128 → y < 128 → part' x ≡ r → r < part' y → (part x ≡ r) × (r < part y)
  lower r x y lt bx yb e h = omega (arith, goes x bx, goes y yb)

  few_low : (r : ℕ) → r < n → leading cs part' r ≤ k
  few_low r lt = omega (arith, own.few r lt, count_le (leads_up part' r) (leads_up part r) cs was_up)
    where
      was_up : (i : ℕ) (c : Cable) → slice_get cs i ≡ Some c → leads_up part' r c ≡ true → leads_up part r c ≡ true
      was_up i c st e =
          let b = lawful i c st in
          up_from part r c (⊎_elim
          (λ u. inl (lower r c.a c.b lt b.0 b.1 u.0 u.1))
          (λ u. inr (lower r c.b c.a lt b.1 b.0 u.0 u.1))
          (up_says part' r c e))

  -- from the side that was left, what leads up crosses
  stayed : (x : ℕ) → x < 128 → part' x ≡ n → (inside part n x ≡ true) × (side x ≡ false)
  stayed x b e = ⊎_elim (λ h. absurd (omega (arith, h.2, e))) (⊎_elim (λ h. (inside_from part n x b h.0, h.1)) (λ h. absurd (omega (arith, h.0, h.1, e)))) (goes x b)

  rose : (y : ℕ) → y < 128 → n < part' y → (inside part n y ≡ true) × (side y ≡ true)
  rose y b h = ⊎_elim (λ g. (inside_from part n y b g.0, g.1)) (⊎_elim (λ g. absurd (omega (arith, g.2, h))) (λ g. absurd (omega (arith, g.0, g.1, h)))) (goes y b)

  few_left : leading cs part' n ≤ k
  few_left = omega (arith, cut, count_le (leads_up part' n) (crosses (inside part n) side) cs up_crosses)
    where
      up_crosses : (i : ℕ) (c : Cable) → slice_get cs i ≡ Some c → leads_up part' n c ≡ true → crosses (inside part n) side c ≡ true
      up_crosses i c st e =
          let b = lawful i c st in
          ⊎_elim
          (λ u. let p = stayed c.a b.0 u.0 in
          let q = rose c.b b.1 u.1 in
          crosses_from (inside part n) side c (and_from (inside part n c.a) (inside part n c.b) p.0 q.0) (λ s. false≢true (sym p.1 ∙ s ∙ q.1)))
          (λ u. let p = stayed c.b b.1 u.0 in
          let q = rose c.a b.0 u.1 in
          crosses_from (inside part n) side c (and_from (inside part n c.a) (inside part n c.b) q.0 p.0) (λ s. true≢false (sym q.1 ∙ s ∙ p.1)))
          (up_says part' n c e)

  few_step : (r : ℕ) → r < suc n → leading cs part' r ≤ k
  few_step r h = ⊎_elim (λ lt. few_low r lt) (λ le. let e : n ≡ r = omega arith in subst (λ m. leading cs part' m ≤ k) e few_left) (cases_lt r n)

  -- a cut with the list on one side sheds the other
  pub own_more : ((d : ℕ) → member l d ≡ true → side d ≡ true) → Own cs l k part' (suc n)
  own_more all = record {
    devices = own.devices;
    listed = λ d m. step.raised d (own.devices d m) (own.listed d m) (all d m);
    high = high';
    few = few_step;
  }

  -- a cut that parts the list ends the sheet
  pub own_done : (x y : ℕ) → member l x ≡ true → member l y ≡ true → side x ≡ true → side y ≡ false → GoodSheet cs l k part'
  own_done x y mx my sx sy = record {
    few = few_all cs part' (suc n) k lawful high' few_step;
    small = λ d b. inl (⊎_elim
        (λ e. (y, my, (λ f. omega (arith, e, f, step.left y (own.devices y my) (own.listed y my) sy))))
        (λ ne. (x, mx, (λ f. ne (sym f ∙ step.raised x (own.devices x mx) (own.listed x mx) sx))))
        (cases_eq (part' d) (suc n)));
  }
