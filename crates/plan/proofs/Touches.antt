-- The highest mark of the cables at a device, row by row. Assumes nothing.
use Rattle.std.proofs.Common.{◌≡◌, ℕ, zero, suc, ◌+◌, ◌<◌, ◌≤◌, Bool, true, false, cond, ◌&&◌, eqb, ltb, ◌⊎◌, List, length, get_or, take, Some, sym, refl, ap, ◌∙◌, subst, inl, inr, ⊎_elim, add-one, arith}
use Rattle.std.specs.List.{slice_get, fold}
use Rattle.std.proofs.lemmas.List.{take_all, length-map}
use Rattle.std.proofs.lemmas.List.Sums.{fold_more}
use Rattle.std.proofs.lemmas.Option.{slice_get-get_or}
use Rattle.std.proofs.lemmas.Bool.{cases_Bool, cases_lt, both_ways, and_parts, and_from, or_cases, or_left, or_right, eqb-true, eq-eqb, ltb-true, lt-ltb}
use Rattle.network.specs.Marks.{Strong, Touched}
use Rattle.network.specs.declared.cable.Cable.{Cable}
use Rattle.network.specs.declared.cable.MarkedCable.{MarkedCable}
use Rattle.network.proofs.Places.{place_low, one_place}
use Rattle.plan.specs.Grading.{mark_of, mark_at}
use Rattle.plan.specs.Rows.{cables_in}
use Rattle.plan.specs.Strengths.{touches, Highest}
use Rattle.plan.proofs.Faults.{unused}
use Rattle.plan.proofs.Reading.{cable_of_row}

abbrev At : Cable → ℕ → Type 0
At c x = (c.a ≡ x) ⊎ (c.b ≡ x)

touches_from : (c : Cable) (x : ℕ) → At c x → touches c x ≡ true
touches_from c x h = ⊎_elim
    (λ e. or_left (eqb c.a x) (eqb c.b x) (eq-eqb c.a x e))
    (λ e. or_right (eqb c.a x) (eqb c.b x) (eq-eqb c.b x e))
    h

touches_says : (c : Cable) (x : ℕ) → touches c x ≡ true → At c x
touches_says c x t = ⊎_elim
    (λ e. inl (eqb-true c.a x e))
    (λ e. inr (eqb-true c.b x e))
    (or_cases (eqb c.a x) (eqb c.b x) t)

-- k is the highest mark of the cables at x among the first n
pub record Sofar (rows : List MarkedCable) (x n k : ℕ) : Type 0 where
  pub found : 0 < k → Touched (Strong (cables_in rows) (mark_at rows) k) x
  pub above : (i : ℕ) (c : Cable) → i < n → slice_get (cables_in rows) i ≡ Some c → touches c x ≡ true → mark_at rows i ≤ k

module _ (rows : List MarkedCable) (x : ℕ) where
  pub sofar_none : Sofar rows x 0 0
  sofar_none = record { found = λ h. absurd (omega arith); above = λ i c h st t. absurd (omega arith) }

  pub sofar_more : (n k : ℕ) (r : MarkedCable) → Some r ≡ slice_get rows n → Sofar rows x n k
      → (j : ℕ) → j ≡ cond (touches r.cable x && ltb k r.mark) r.mark k → Sofar rows x (n + 1) j
  sofar_more n k r e was j is = ⊎_elim taken left (cases_Bool test)
    where
      test : Bool
      test = touches r.cable x && ltb k r.mark

      here : slice_get (cables_in rows) n ≡ Some r.cable
      here = cable_of_row rows n r e

      mark_here : r.mark ≡ mark_at rows n
      mark_here = ap mark_of e

      taken : test ≡ true → Sofar rows x (n + 1) j
      taken t =
          let p = and_parts (touches r.cable x) (ltb k r.mark) t in
          let j_is : j ≡ r.mark = is ∙ ap (λ b. cond b r.mark k) t in
          let over : k < r.mark = ltb-true k r.mark p.1 in
          record {
            found = λ h. (r.cable, (n, here, omega (arith, mark_here)), touches_says r.cable x p.0);
            above = λ i c h st on. ⊎_elim
                (λ lt. omega (arith, was.above i c lt st on))
                (λ le. let i_is : i ≡ n = omega arith in omega (arith, mark_here, ap (mark_at rows) i_is))
                (cases_lt i n);
          }

      left : test ≡ false → Sofar rows x (n + 1) j
      left f =
          let j_is : j ≡ k = is ∙ ap (λ b. cond b r.mark k) f in
          let low : touches r.cable x ≡ true → r.mark ≤ k = λ on. ⊎_elim
          (λ lt. absurd (both_ways test f (and_from (touches r.cable x) (ltb k r.mark) on (lt-ltb k r.mark lt))))
          (λ le. le)
          (cases_lt k r.mark) in
          subst (Sofar rows x (n + 1)) (sym j_is) (record {
            found = was.found;
            above = λ i c h st on. ⊎_elim
                (λ lt. was.above i c lt st on)
                (λ le. let i_is : i ≡ n = omega arith in
                let same : c ≡ r.cable = one_place (cables_in rows) n c r.cable (subst (λ m. slice_get (cables_in rows) m ≡ Some c) i_is st) here in
                omega (arith, mark_here, ap (mark_at rows) i_is, low (subst (λ d. touches d x ≡ true) same on)))
                (cases_lt i n);
          })

  abbrev pub higher : ℕ → MarkedCable → ℕ
  higher k r = cond (touches r.cable x && ltb k r.mark) r.mark k

  sofar_fold : (n : ℕ) → n ≤ length rows → Sofar rows x n (fold higher 0 (take n rows))
  sofar_fold zero h = sofar_none
  sofar_fold (suc n) h =
      let low : n < length rows = omega arith in
      let row = get_or rows n unused in
      let k = fold higher 0 (take n rows) in
      let more = sofar_more n k row (sym (slice_get-get_or rows n unused low)) (sofar_fold n (omega arith)) (higher k row) refl in
      subst (λ m. Sofar rows x m (fold higher 0 (take m rows))) (add-one n) (subst (Sofar rows x (n + 1)) (sym (fold_more higher 0 rows n unused low)) more)

  -- the highest mark, by a fold over the rows
  pub fold_highest : (k : ℕ) → k ≡ fold higher 0 rows → Highest (cables_in rows) (mark_at rows) x k
  fold_highest k is =
      let n = length rows in
      let was : Sofar rows x n k = subst (Sofar rows x n) (ap (fold higher 0) (take_all n rows (omega arith)) ∙ sym is) (sofar_fold n (omega arith)) in (
        was.found,
        (λ (c, (i, st, le), at). omega (arith, was.above i c (omega (arith, place_low (cables_in rows) i c st, length-map rows (λ r. r.cable))) st (touches_from c x at))),
      )
