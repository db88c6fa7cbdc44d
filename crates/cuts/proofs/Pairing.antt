-- Pairing labels, by one more pair at a time, and the fusion that it gives.
use Rattle.std.proofs.Common.{◌≡◌, ℕ, ◌+◌, ◌<◌, ◌≤◌, Bool, true, false, cond, not, ◌&&◌, eqb, ltb, leb, ◌⊎◌, List, length, get_or, set, sym, ap, ◌∙◌, subst, inl, inr, ⊎_elim, arith}
use Rattle.std.proofs.lemmas.List.{get_or-set_same, get_or-set_other, length-set}
use Rattle.std.proofs.lemmas.Bool.{cases_eq, eq-eqb, ne_eqb, eqb-false, true≢false, and_parts, not-true, leb-true, ltb-true, lt-ltb, eqb-true, and_from}
use Rattle.cuts.specs.declared.adjacency.link.Link.{Link}
use Rattle.cuts.specs.Links.{label, flagged, degree, between, cell}
use Rattle.cuts.specs.Fusions.{Movable, Moved, pairs, Fused}
use Rattle.cuts.specs.Groups.{Numbered}
use Rattle.cuts.proofs.Flipping.{pair_step}

-- what the loop of `pair_up` keeps
pub record Pairing (L : ℕ → ℕ) (ls : List Link) (n best : ℕ) (to : List ℕ) (used : List Bool) : Type 0 where
  pub movable : Movable L ls n best (label to)
  pub low : (x : ℕ) → x < n → label to x < n
  pub low_all : (x : ℕ) → x < 128 → label to x < 128
  pub still : (x : ℕ) → x < n → label to (label to x) ≡ label to x
  pub fresh : (x : ℕ) → x < n → (label to x ≡ x) ⊎ ((flagged used x ≡ true) × (flagged used (label to x) ≡ true))
  pub long_to : length to ≡ 128
  pub long_used : length used ≡ 128

kept_true : (xs : List Bool) (a d : ℕ) → a < length xs → flagged xs d ≡ true → flagged (set xs a true) d ≡ true
kept_true xs a d h t = ⊎_elim
    (λ e. subst (λ z. flagged (set xs a true) z ≡ true) (sym e) (get_or-set_same xs a true false h))
    (λ ne. get_or-set_other xs a d true false ne ∙ t)
    (cases_eq d a)

module _ (L : ℕ → ℕ) (ls : List Link) (n best : ℕ) where
  movable_same : (to to' : ℕ → ℕ) → ((x : ℕ) → x < n → to' x ≡ to x) → Movable L ls n best to → Movable L ls n best to'
  movable_same to to' e m B two = ⊎_elim (λ q. inl (q.0, q.1, (λ x h. ap q.0 (e x h) ∙ q.2 x h), q.3)) (λ h. inr h) (m B two)

  pub pairing_more : (to : List ℕ) (used : List Bool) (m : List (List ℕ)) (degrees : List ℕ) (a b : ℕ)
      → n ≤ 128 → ((d : ℕ) → d < 128 → L d < n) → a < n → b < n
      → get_or degrees a 0 ≡ degree L ls a → best ≤ get_or degrees a 0 → cell m a b ≡ between L a b ls
      → pairs m degrees used a b ≡ true
      → Pairing L ls n best to used
      → Pairing L ls n best (set to a b) (set (set used a true) b true)
  pairing_more to used m degrees a b fits labels ha hb is deg is-cell may p = record {
    movable = movable_same (λ x. cond (eqb x a) b (label to x)) (label (set to a b))
        (λ x h. ⊎_elim (λ e. subst (λ z. label (set to a b) z ≡ b) (sym e) at_a ∙ rw (eq-eqb x a e)) (λ nx. at_x x nx ∙ rw (ne_eqb x a nx)) (cases_eq x a))
        (pair_step L ls n best (label to) a b labels ha hb (λ e. apart (sym e)) (λ x h nx e. none_to x h nx e) (omega (arith, heavy, is, is-cell)) (omega (arith, deg, is)) p.movable);
    low = λ x h. ⊎_elim (λ e. subst (λ z. label (set to a b) z < n) (sym e) (omega (arith, at_a))) (λ nx. omega (arith, at_x x nx, p.low x h)) (cases_eq x a);
    low_all = λ x h. ⊎_elim (λ e. subst (λ z. label (set to a b) z < 128) (sym e) (omega (arith, at_a))) (λ nx. omega (arith, at_x x nx, p.low_all x h)) (cases_eq x a);
    still = λ x h. ⊎_elim
        (λ e. subst (λ z. label (set to a b) (label (set to a b) z) ≡ label (set to a b) z) (sym e) (ap (label (set to a b)) at_a ∙ (at_x b (λ q. apart (sym q)) ∙ (still_b ∙ sym at_a))))
        (λ nx. ap (label (set to a b)) (at_x x nx) ∙ (at_x (label to x) (none_to x h nx) ∙ (p.still x h ∙ sym (at_x x nx))))
        (cases_eq x a);
    fresh = λ x h. ⊎_elim
        (λ e. inr (subst (λ z. flagged used' z ≡ true) (sym e) used_a, subst (λ z. flagged used' (label (set to a b) z) ≡ true) (sym e) (ap (flagged used') at_a ∙ used_b)))
        (λ nx. ⊎_elim
        (λ s. inl (at_x x nx ∙ s))
        (λ t. inr (used_x x t.0, ap (flagged used') (at_x x nx) ∙ used_x (label to x) t.1))
        (p.fresh x h))
        (cases_eq x a);
    long_to = length-set to a b ∙ p.long_to;
    long_used = length-set (set used a true) b true ∙ (length-set used a true ∙ p.long_used);
  }
    where
      used' : List Bool
      used' = set (set used a true) b true

      two_labels : (not (eqb a b) ≡ true) × ((not (flagged used a) && (not (flagged used b) && leb (get_or degrees a 0) (cell m a b + cell m a b))) ≡ true)
      two_labels = and_parts _ _ may

      first_free : (not (flagged used a) ≡ true) × ((not (flagged used b) && leb (get_or degrees a 0) (cell m a b + cell m a b)) ≡ true)
      first_free = and_parts _ _ two_labels.1

      second_free : (not (flagged used b) ≡ true) × (leb (get_or degrees a 0) (cell m a b + cell m a b) ≡ true)
      second_free = and_parts _ _ first_free.1

      apart : a ≡ b → ⊥
      apart = eqb-false a b (not-true _ two_labels.0)

      free_a : flagged used a ≡ false
      free_a = not-true _ first_free.0

      free_b : flagged used b ≡ false
      free_b = not-true _ second_free.0

      heavy : get_or degrees a 0 ≤ cell m a b + cell m a b
      heavy = leb-true _ _ second_free.1

      at_a : label (set to a b) a ≡ b
      at_a = get_or-set_same to a b 0 (omega (arith, p.long_to))

      at_x : (x : ℕ) → (x ≡ a → ⊥) → label (set to a b) x ≡ label to x
      at_x x nx = get_or-set_other to a x b 0 nx

      none_to : (x : ℕ) → x < n → (x ≡ a → ⊥) → label to x ≡ a → ⊥
      none_to x h nx e = ⊎_elim (λ s. nx (sym s ∙ e)) (λ t. true≢false (sym t.1 ∙ (ap (flagged used) e ∙ free_a))) (p.fresh x h)

      still_b : label to b ≡ b
      still_b = ⊎_elim (λ s. s) (λ t. absurd (true≢false (sym t.0 ∙ free_b))) (p.fresh b hb)

      used_x : (d : ℕ) → flagged used d ≡ true → flagged used' d ≡ true
      used_x d t = kept_true (set used a true) b d (omega (arith, length-set used a true, p.long_used)) (kept_true used a d (omega (arith, p.long_used)) t)

      used_a : flagged used' a ≡ true
      used_a = kept_true (set used a true) b a (omega (arith, length-set used a true, p.long_used)) (get_or-set_same used a true false (omega (arith, p.long_used)))

      used_b : flagged used' b ≡ true
      used_b = get_or-set_same (set used a true) b true false (omega (arith, length-set used a true, p.long_used))

  pub pairing_at : (to to' : List ℕ) (used used' : List Bool) → to ≡ to' → used ≡ used' → Pairing L ls n best to' used' → Pairing L ls n best to used
  pairing_at to to' used used' a b p = subst (λ z. Pairing L ls n best z used) (sym a) (subst (λ z. Pairing L ls n best to' z) (sym b) p)

  pub fused_by_pairs : (to labels reps into : List ℕ) (S : ℕ → Bool) (c : ℕ)
      → n ≤ 128 → 2 ≤ n → Moved L ls n best to
      → ((d : ℕ) → d < 128 → S d ≡ (ltb d n && eqb (label to d) d))
      → Numbered S labels reps c
      → ((d : ℕ) → d < 128 → label into d ≡ label labels (label to d))
      → c < n
      → Fused L ls n best best into reps c
  fused_by_pairs to labels reps into S c fits two p is q e less = record {
    below = λ v h. omega (arith, e v (omega arith), q.inner (label to v) (omega (arith, p.low v h)) (root v h));
    firsts_low = λ y h. ltb-true _ n (own y h).0;
    firsts_own = λ y h. e (label reps y) (q.reps_low y h) ∙ (ap (label labels) (eqb-true _ _ (own y h).1) ∙ q.reps_own y h);
    seen = λ B t. ⊎_elim (λ k. inl (k.0, k.1, (λ v h. ap k.0 (back v h) ∙ k.2 v h), k.3)) (λ h. inr h) (p.movable B t);
    less = λ _. less;
    few = omega arith;
    some = omega (arith, q.inner (label to 0) (omega (arith, p.low 0 (omega arith))) (root 0 (omega arith)));
  }
    where
      root : (v : ℕ) → v < n → S (label to v) ≡ true
      root v h = is (label to v) (omega (arith, p.low v h)) ∙ and_from _ _ (lt-ltb _ n (p.low v h)) (eq-eqb _ _ (p.still v h))

      own : (y : ℕ) → y < c → (ltb (label reps y) n ≡ true) × (eqb (label to (label reps y)) (label reps y) ≡ true)
      own y h = and_parts _ _ (sym (is (label reps y) (q.reps_low y h)) ∙ q.reps_in y h)

      back : (v : ℕ) → v < n → label reps (label into v) ≡ label to v
      back v h = ap (label reps) (e v (omega arith)) ∙ q.own (label to v) (omega (arith, p.low v h)) (root v h)

  pub fused_less : (last : ℕ) (into firsts : List ℕ) (c : ℕ) → best ≤ last → Fused L ls n best last into firsts c → Fused L ls n best best into firsts c
  fused_less last into firsts c h f = record {
    below = f.below;
    firsts_low = f.firsts_low;
    firsts_own = f.firsts_own;
    seen = f.seen;
    less = λ _. f.less h;
    few = f.few;
    some = f.some;
  }
