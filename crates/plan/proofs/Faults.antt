-- Judging: counting what leads out of a part, telling whether it is lone, and what the faults say of the sheet. Assumes nothing.
use Rattle.std.proofs.Common.{◌≡◌, ℕ, zero, suc, ◌+◌, ◌<◌, ◌≤◌, Bool, true, false, ◌⊎◌, eqb, leb, List, [], ◌∷◌, length, get_or, take, count_by, sym, refl, ap, ◌∙◌, subst, inl, inr, ⊎_elim, add-one, arith, eq-eqb, ne_eqb}
use borrow.Author.Tests.{lt-leb}
use Rattle.std.proofs.lemmas.List.{take_all}
use Rattle.std.proofs.lemmas.Option.{slice_get-get_or}
use Rattle.std.proofs.lemmas.List.Sums.{count_by_more_yes, count_by_more_no}
use Rattle.std.proofs.lemmas.Bool.{cases_lt, cases_eq, le-leb}
use Rattle.network.specs.Cables.{LawfulCable, Lawful}
use Rattle.network.specs.Sheets.{leads_up, leading, Lacks, Lone, GoodSheet}
use Rattle.network.specs.declared.cable.Cable.{Cable}
use Rattle.network.specs.declared.cable.MarkedCable.{MarkedCable}
use Rattle.network.specs.declared.refusal.Refusal.{Refusal}
use Rattle.network.proofs.Counts.{count_cons, count_none}
use Rattle.network.proofs.ListPlaces.{mapped, nth_map}
use Rattle.network.proofs.Places.{blank}
use Rattle.network.proofs.Sheets.{up_says}
use Rattle.cuts.specs.Members.{set_of}
use Rattle.cuts.specs.declared.devices.Devices.{Devices}
use Rattle.plan.specs.Rows.{cables_in}
use Rattle.cutsheets.specs.Listing.{Names}
use Rattle.forest.specs.Labels.{Tells}
use Rattle.plan.specs.Judging.{Small, Sound, Faulty}

-- whether a device below n is in part p; if so there is one
abbrev pub Seen : (part : ℕ → ℕ) → (p n : ℕ) → Bool → Type 0
Seen part p n false = (k : ℕ) → k < n → part k ≡ p → ⊥
Seen part p n true = (x : ℕ) × (x < n) × (part x ≡ p) × ((k : ℕ) → k < n → part k ≡ p → k ≡ x)

module _ (part : ℕ → ℕ) (p n : ℕ) where
  pub seen_other : (b : Bool) → (part n ≡ p → ⊥) → Seen part p n b → Seen part p (n + 1) b
  seen_other false ne s = λ k h e. ⊎_elim (λ lt. s k lt e) (λ le. let q : n ≡ k = omega arith in ne (ap part q ∙ e)) (cases_lt k n)
  seen_other true ne s =
      (s.0, omega (arith, s.1), s.2, λ k h e. ⊎_elim (λ lt. s.3 k lt e) (λ le. let q : n ≡ k = omega arith in absurd (ne (ap part q ∙ e))) (cases_lt k n))

  pub seen_first : part n ≡ p → Seen part p n false → Seen part p (n + 1) true
  seen_first e s = (n, omega arith, e, λ k h f. ⊎_elim (λ lt. absurd (s k lt f)) (λ le. omega arith) (cases_lt k n))

  pub seen_twice : n < 128 → part n ≡ p → Seen part p n true → Lone part p → ⊥
  seen_twice h e s lone = omega (arith, s.1, lone s.0 n (omega (arith, s.1)) h s.2 e)

  pub seen_all : 128 ≤ n → (b : Bool) → Seen part p n b → Lone part p
  seen_all h false s = λ x y lx ly ex ey. absurd (s x (omega arith) ex)
  seen_all h true s = λ x y lx ly ex ey. s.3 x (omega arith) ex ∙ sym (s.3 y (omega arith) ey)

-- how many of the first n devices are in the part, and what that says of them
abbrev Counted : (part : ℕ → ℕ) → (p n c : ℕ) → Type 0
Counted part p n c = ((c ≡ 0) × Seen part p n false) ⊎ (((c ≡ 1) × Seen part p n true) ⊎ ((2 ≤ c) × (Lone part p → ⊥)))

module _ (parts : List ℕ) (p : ℕ) (long : length parts ≡ 128) where
  abbrev of : ℕ → ℕ
  of d = get_or parts d 0

  abbrev count : ℕ → ℕ
  count n = count_by (λ x. eqb x p) (take n parts)

  one_other : (n c : ℕ) → (of n ≡ p → ⊥) → Counted of p n c → Counted of p (n + 1) c
  one_other n c ne (inl h) = inl (h.0, seen_other of p n false ne h.1)
  one_other n c ne (inr (inl h)) = inr (inl (h.0, seen_other of p n true ne h.1))
  one_other n c ne (inr (inr h)) = inr (inr h)

  one_more : (n c : ℕ) → n < 128 → of n ≡ p → Counted of p n c → Counted of p (n + 1) (c + 1)
  one_more n c low e (inl h) = inr (inl (omega (arith, h.0), seen_first of p n e h.1))
  one_more n c low e (inr (inl h)) = inr (inr (omega (arith, h.0), seen_twice of p n low e h.1))
  one_more n c low e (inr (inr h)) = inr (inr (omega (arith, h.0), h.1))

  counted : (n : ℕ) → n ≤ 128 → Counted of p n (count n)
  counted zero h = inl (refl, λ k low. absurd (omega arith))
  counted (suc n) h =
      let low : n < length parts = omega (arith, long) in
      let was = counted n (omega arith) in
      subst (λ m. Counted of p m (count m)) (add-one n) (⊎_elim
      (λ e. subst (Counted of p (n + 1)) (sym (count_by_more_yes (λ x. eqb x p) parts n 0 low (eq-eqb (of n) p e))) (one_more n (count n) (omega arith) e was))
      (λ e. subst (Counted of p (n + 1)) (sym (count_by_more_no (λ x. eqb x p) parts n 0 low (ne_eqb (of n) p e))) (one_other n (count n) e was))
      (cases_eq (of n) p))

  lone_says : (c : ℕ) → Counted of p 128 c → Tells (leb c 1) (Lone of p)
  lone_says c (inl h) = subst (λ b. Tells b (Lone of p)) (sym (le-leb c 1 (omega (arith, h.0)))) (seen_all of p 128 (omega arith) false h.1)
  lone_says c (inr (inl h)) = subst (λ b. Tells b (Lone of p)) (sym (le-leb c 1 (omega (arith, h.0)))) (seen_all of p 128 (omega arith) true h.1)
  lone_says c (inr (inr h)) = subst (λ b. Tells b (Lone of p)) (sym (lt-leb c 1 (omega (arith, h.0)))) h.1

  -- a part has one device at most exactly where no more than one is counted
  pub lone_count : (c : ℕ) → c ≡ count_by (λ x. eqb x p) parts → Tells (leb c 1) (Lone of p)
  lone_count c e = lone_says c (subst (Counted of p 128) (ap (count_by (λ x. eqb x p)) (take_all 128 parts (omega (arith, long))) ∙ sym e) (counted 128 (omega arith)))

-- what leads out of a part, counted over rows
leading_rows : (part : ℕ → ℕ) (p : ℕ) (rows : List MarkedCable) → count_by (λ r. leads_up part p r.cable) rows ≡ leading (cables_in rows) part p
leading_rows part p [] = refl
leading_rows part p (r ∷ rows) = omega (
  arith,
  leading_rows part p rows,
  count_cons (λ x. leads_up part p x.cable) r rows,
  count_cons (leads_up part p) r.cable (cables_in rows),
)

pub leading_all : (part : ℕ → ℕ) (p n i : ℕ) (rows all : List MarkedCable) → rows ≡ all → length rows ≤ i → n ≡ count_by (λ r. leads_up part p r.cable) (take i rows)
    → n ≡ leading (cables_in all) part p
leading_all part p n i rows all is h e =
    e ∙ ap (count_by (λ r. leads_up part p r.cable)) (take_all i rows h) ∙ leading_rows part p rows ∙ ap (λ rs. leading (cables_in rs) part p) is

-- what stands past the last row
abbrev pub unused : MarkedCable
unused = record { cable = blank; mark = 0 }

pub row_lawful : (rows : List MarkedCable) → Lawful (cables_in rows) → (i : ℕ) → i < length rows → LawfulCable (get_or rows i unused).cable
row_lawful rows lawful i h = lawful i (get_or rows i unused).cable (nth_map (λ x. x.cable) rows i ∙ ap (mapped (λ x. x.cable)) (slice_get-get_or rows i unused h))

-- a listed device in another part
module _ (s : Devices) (l : List ℕ) (names : Names l (set_of s)) (part : ℕ → ℕ) (p : ℕ) where
  pub lacks_from : (d : ℕ) × (set_of s d ≡ true) × (part d ≡ p → ⊥) → Lacks part l p
  lacks_from w = (w.0, sym (names w.0) ∙ w.1, w.2)

  pub lacks_to : Lacks part l p → (d : ℕ) × (set_of s d ≡ true) × (part d ≡ p → ⊥)
  lacks_to w = (w.0, names w.0 ∙ w.1, w.2)

-- each part below n and part n
pub below_next : (P : ℕ → Type 0) (n : ℕ) → ((q : ℕ) → q < n → P q) → P n → (q : ℕ) → q < n + 1 → P q
below_next P n below here q h = ⊎_elim (λ lt. below q lt) (λ le. let e : n ≡ q = omega arith in subst P e here) (cases_lt q n)

-- a sheet whose parts are all sound is good, and a good sheet has no fault
module _ (cs : List Cable) (l : List ℕ) (k : ℕ) (part : ℕ → ℕ) where
  pub sound_good : ((d : ℕ) → d < 128 → part d < 128) → ((p : ℕ) → p < 128 → Sound cs l k part p) → GoodSheet cs l k part
  sound_good low sound = record { few = λ d b. (sound (part d) (low d b)).0; small = λ d b. (sound (part d) (low d b)).1 }

  -- where a cable leads out of a part, the part has a device
  few_everywhere : Lawful cs → GoodSheet cs l k part → (p : ℕ) → k < leading cs part p → ⊥
  few_everywhere lawful good p more = omega (
    arith,
    more,
    count_none (leads_up part p) cs (λ i c st e.
        let b = lawful i c st in
        ⊎_elim
        (λ u. omega (arith, more, subst (λ q. leading cs part q ≤ k) u.0 (good.few c.a b.0)))
        (λ u. omega (arith, more, subst (λ q. leading cs part q ≤ k) u.0 (good.few c.b b.1)))
        (up_says part p c e)),
  )

  small_everywhere : GoodSheet cs l k part → (p : ℕ) → (Small l part p → ⊥) → ⊥
  small_everywhere good p large = large (inr (λ x y lx ly ex ey. ⊎_elim
      (λ lacks. absurd (large (inl (subst (λ q. Lacks part l q) ex lacks))))
      (λ lone. lone x y lx ly refl (ey ∙ sym ex))
      (good.small x lx)))

  pub good_faultless : Lawful cs → GoodSheet cs l k part → (p : ℕ) (e : Refusal) → Faulty cs l k part p e → ⊥
  good_faultless lawful good p e (inl f) = few_everywhere lawful good p f.1
  good_faultless lawful good p e (inr f) = small_everywhere good p f.2
