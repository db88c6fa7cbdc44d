-- The strength of a list from the marks in a table: for several devices, and for one. Assumes nothing.
use Rattle.std.proofs.Common.{◌≡◌, ℕ, suc, Bool, true, false, leb, List, [], ◌∷◌, Some, None, Option, sym, refl, ap, ◌∙◌, subst, ⊎_elim, arith}
use Rattle.std.specs.List.{slice_get}
use Rattle.std.specs.Option.{unwrap_or}
use Rattle.std.proofs.lemmas.Bool.{cases_Bool, cases_eq, leb-true}
use Rattle.network.specs.Lists.{member, ends, ListStrength}
use Rattle.network.specs.Marks.{Marks}
use Rattle.network.specs.Sets.{DeviceSet}
use Rattle.network.specs.declared.cable.Cable.{Cable}
use Rattle.network.specs.declared.cable.MarkedCable.{MarkedCable}
use Rattle.network.proofs.Links.{linked_map}
use Rattle.network.proofs.ListPlaces.{mapped, nth_map}
use Rattle.network.proofs.MarkChains.{several_joined, lone_touched}
use Rattle.network.proofs.Members.{here, only}
use Rattle.cuts.specs.Members.{set_of}
use Rattle.cuts.specs.declared.devices.Devices.{Devices}
use Rattle.cuts.proofs.Membership.{held_low}
use Rattle.forest.specs.Poorest.{Poorest}
use Rattle.forest.proofs.Marks.{strong_reaches}
use Rattle.forest.proofs.Severals.{set_two}
use Rattle.plan.specs.Grading.{mark_of, mark_at}
use Rattle.plan.specs.Rows.{cables_in}
use Rattle.plan.specs.Strengths.{Highest, Joining}
use Rattle.plan.specs.Tables.{rows_of, table_cables}
use Rattle.cutsheets.specs.Listing.{Names}
use Rattle.plan.specs.declared.table.Table.{Table}
use Rattle.plan.proofs.Checking.{named}
use Rattle.plan.proofs.Gathered.{row_mark}

-- the row that a cable stands in
stands_in : (rows : List MarkedCable) (i : ℕ) (c : Cable) (o : Option MarkedCable) → slice_get rows i ≡ o → mapped (λ x. x.cable) o ≡ Some c
    → (r : MarkedCable) × (slice_get rows i ≡ Some r) × (r.cable ≡ c)
stands_in rows i c (Some r) e p = (r, e, cc)
stands_in rows i c None e p = let z : ◌≡◌ {A = ℕ} 0 1 = cc in absurd (omega arith)

pub table_marks : (t : Table) → Marks (table_cables t) (mark_at (rows_of t))
table_marks t i c st =
    let rows = rows_of t in
    let s = stands_in rows i c (slice_get rows i) refl (sym (nth_map (λ x. x.cable) rows i) ∙ st) in
    let m = (row_mark rows t.lawful t.marked i s.0 s.1).1 in
    subst (λ k. ListStrength (cables_in rows) (ends c) k) (sym (ap mark_of s.1)) (subst (λ d. ListStrength (cables_in rows) (ends d) s.0.mark) s.2 m)

module _ (cs : List Cable) (mark : ℕ → ℕ) (D : ℕ → Bool) where
  pub poorest_joining : (k : ℕ) → Poorest (λ a b. leb b a) cs mark D (Some k) → Joining cs mark D k
  poorest_joining k (join, best) = (
    (λ pos x y ix iy. linked_map (λ c p. (strong_reaches cs mark k c).0 p) (join x y ix iy)),
    (λ more. omega (arith, leb-true (suc k) k (best (suc k) (λ x y ix iy. linked_map (λ c p. (strong_reaches cs mark (suc k) c).1 p) (more x y ix iy))))),
  )

  pub none_joining : Poorest (λ a b. leb b a) cs mark D None → Joining cs mark D 0
  none_joining apart = (
    (λ pos. absurd (omega arith)),
    (λ more. apart (λ x y ix iy. linked_map (λ c p. (p.0, p.1)) (more x y ix iy))),
  )

  pub joining_of : (o : Option ℕ) → Poorest (λ a b. leb b a) cs mark D o → Joining cs mark D (unwrap_or o 0)
  joining_of (Some k) p = poorest_joining k p
  joining_of None p = none_joining p

-- the strength of a list is that of any other that names the same devices
list_same : (cs : List Cable) (l m : List ℕ) (k : ℕ) → ((d : ℕ) → member l d ≡ member m d) → ListStrength cs l k → ListStrength cs m k
list_same cs l m k same s =
    let a = s.attained in
    record {
      attained = record { set = a.set; devices = a.devices; has = λ d i. a.has d (same d ∙ i); strong = a.strong };
      bound = λ S set has. s.bound S set (λ d i. has d (sym (same d) ∙ i));
    }

module _ (t : Table) (s : Devices) (l : List ℕ) (names : Names l (set_of s)) where
  pub several_strength : (k : ℕ) → DeviceSet (set_of s) → Joining (table_cables t) (mark_at (rows_of t)) (set_of s) k → ListStrength (table_cables t) l k
  several_strength k set joining =
      let cs = table_cables t in
      let mark = mark_at (rows_of t) in
      (several_joined cs mark (table_marks t) l (subst DeviceSet (named s l names) set) k).1 (subst (λ D. Joining cs mark D k) (named s l names) joining)

  -- a list that names one device only, as often as it may
  pub lone_strength : (k x : ℕ) → (DeviceSet (set_of s) → ⊥) → set_of s x ≡ true → Highest (table_cables t) (mark_at (rows_of t)) x k → ListStrength (table_cables t) l k
  lone_strength k x lone ix highest =
      list_same (table_cables t) (x ∷ []) l k same ((lone_touched (table_cables t) (mark_at (rows_of t)) (table_marks t) x (held_low s x ix) k).1 highest)
    where
      other : (d : ℕ) → (x ≡ d → ⊥) → member l d ≡ false
      other d n = ⊎_elim (λ i. absurd (lone (set_two s x d ix (names d ∙ i) n))) (λ f. f) (cases_Bool (member l d))

      alone : (d : ℕ) → (x ≡ d → ⊥) → member (x ∷ []) d ≡ false
      alone d n = ⊎_elim (λ i. absurd (n (only x d i))) (λ f. f) (cases_Bool (member (x ∷ []) d))

      same : (d : ℕ) → member (x ∷ []) d ≡ member l d
      same d = ⊎_elim
          (λ e. subst (λ y. member (x ∷ []) y ≡ member l y) e (here x [] ∙ sym (sym (names x) ∙ ix)))
          (λ n. alone d n ∙ sym (other d n))
          (cases_eq x d)
