-- What `find_map` over a range of numbers gives, by a closure that stays as it is. From std's `range_runs`.
use Rattle.std.proofs.Common.{◌≡◌, ℕ, ◌+◌, ◌-◌, ◌<◌, ◌≤◌, Option, Some, None, MatchOption, IfSome, IsSomeAnd, subst, arith}
use Rattle.std.specs.Bool.{IsTrue}
use Rattle.std.specs.Fn.{Called, Mut}
use Rattle.std.specs.Option.{option_map}
use Rattle.std.specs.Iterator.Runs.{Run, SomeRun, AllItemsGive, IsFirstToGive, ItemsCountUp}
use Rattle.std.proofs.iter.Yields.{nat_range_steps}
use Rattle.std.proofs.iter.runs.Sources.{range_runs}

same_at : (o : Option ℕ) (n : ℕ) → option_map (λ y. y) o ≡ Some n → o ≡ Some n
same_at None n e = cc
same_at (Some x) n e = e

module _ {F B : Type 0} (g : Mut F (ℕ × Unit {0}) (Option B)) (f : F) (Miss : ℕ → Type 0) (Hit : ℕ → B → Type 0)
    (told : (x : ℕ) (r : Option B) (q : F) → Called g f (x, tt) r q → (q ≡ f) × MatchOption r (Miss x) (Hit x)) (a b : ℕ) where
  counts_up : (p : Run nat_range_steps) → p.from ≡ record { start = a; end = b } → ItemsCountUp p a b
  counts_up p from = subst (λ s. ItemsCountUp p s.start s.end) from (range_runs p p.seen)

  -- the answer at the first place that has one; none where no place has
  pub first_in_range : (r : Option B) → SomeRun nat_range_steps (record { start = a; end = b }) (λ p. MatchOption r
      (IsTrue p.whole × AllItemsGive p g f None) (λ y. (i : ℕ) × (i < p.len) × (p.len ≡ i + 1) × IsFirstToGive p g f (Some y) None i))
      → MatchOption r ((i : ℕ) → a ≤ i → i < b → Miss i) (λ y. (n : ℕ) × (a ≤ n) × Hit n y × ((i : ℕ) → a ≤ i → i < n → Miss i))
  first_in_range None (p, from, (whole, none)) = λ i low high.
      let up = counts_up p from in
      let at : p.at (i - a) ≡ Some (a + (i - a)) = same_at _ _ (up.3 (i - a) (omega (arith, up.1 whole))) in
      let call = subst (λ o. IfSome o (λ x. Called g f (x, tt) None f)) at (none (λ x y q k. (told x.0 y q k).0) (i - a)) in
      subst Miss (omega arith) (told (a + (i - a)) None f call).1
  first_in_range (Some y) (p, from, (i, l, len, first)) =
      let up = counts_up p from in
      let calls = first (λ x r q k. (told x.0 r q k).0) in
      let at : p.at i ≡ Some (a + i) = same_at _ _ (up.3 i l) in
      let call = subst (λ o. IsSomeAnd o (λ x. Called g f (x, tt) (Some y) f)) at calls.0 in (
        a + i,
        omega arith,
        (told (a + i) (Some y) f call).1,
        λ j low high.
            let before : p.at (j - a) ≡ Some (a + (j - a)) = same_at _ _ (up.3 (j - a) (omega arith)) in
            let missed = subst (λ o. IsSomeAnd o (λ x. Called g f (x, tt) None f)) before (calls.1 (j - a) (omega arith)) in
            subst Miss (omega arith) (told (a + (j - a)) None f missed).1,
      )
