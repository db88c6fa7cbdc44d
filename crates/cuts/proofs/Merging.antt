-- Merging groups until the best split is a least one: what the loop keeps, and what it gives at the end.
use Rattle.std.proofs.Common.{◌≡◌, eqb, ℕ, ◌<◌, ◌≤◌, Bool, true, ◌⊎◌, List, length, sym, ap, ◌∙◌, inl, inr, ⊎_elim, arith}
use Rattle.std.proofs.lemmas.Bool.{eq-eqb, ne_eqb, true≢false, cases_lt}
use Rattle.network.specs.Sets.{DeviceSet, Split}
use Rattle.cuts.specs.declared.adjacency.link.Link.{Link}
use Rattle.cuts.specs.declared.adjacency.groups.Groups.{Groups}
use Rattle.cuts.specs.declared.finder.Cut.{Cut}
use Rattle.cuts.specs.Members.{set_of}
use Rattle.cuts.specs.Links.{label, across, Ends}
use Rattle.cuts.specs.Fusions.{Two}
use Rattle.cuts.specs.Groups.{Numbered, Lightest, Coarser, Weakest}
use Rattle.cuts.proofs.Sides.{across_same, across_same_on}

-- C parts no group
abbrev pub Whole : (S : ℕ → Bool) → Groups → (ℕ → Bool) → Type 0
Whole S g C = (d : ℕ) → d < 128 → S d ≡ true → C (label g.reps.items (label g.labels d)) ≡ C d

-- for each split with fewer links across than the best there is one with no more that parts no group
abbrev pub Seen : (ls : List Link) (S : ℕ → Bool) → Groups → ℕ → (ℕ → Bool) → Type 0
Seen ls S g best A = ((C : ℕ → Bool) × Split S C × Whole S g C × (across C ls ≤ across A ls)) ⊎ (best ≤ across A ls)

abbrev pub Found : (ls : List Link) (S : ℕ → Bool) → Cut → Type 0
Found ls S b = Split S (set_of b.side) × (across (set_of b.side) ls ≡ b.crossings)

-- what the loop of `weakest_split` keeps
pub record Merging (ls : List Link) (S : ℕ → Bool) (g : Groups) (b : Cut) : Type 0 where
  pub seen : (A : ℕ → Bool) → Split S A → Seen ls S g b.crossings A
  pub bounded : (d : ℕ) → S d ≡ true → d < 128
  pub low : (d : ℕ) → d < 128 → label g.labels d < length g.reps.items
  pub reps_low : (x : ℕ) → x < length g.reps.items → label g.reps.items x < 128
  pub reps_in : (x : ℕ) → x < length g.reps.items → S (label g.reps.items x) ≡ true
  pub reps_own : (x : ℕ) → x < length g.reps.items → label g.labels (label g.reps.items x) ≡ x
  pub found : Found ls S b

module _ (S : ℕ → Bool) (labels reps : List ℕ) (n : ℕ) (p : Numbered S labels reps n) where
  pub two_devices : ((d : ℕ) → S d ≡ true → d < 128) → 2 ≤ n → DeviceSet S
  two_devices bounded two = record {
    below = bounded;
    one = label reps 0;
    other = label reps 1;
    one_in = p.reps_in 0 (omega arith);
    other_in = p.reps_in 1 (omega arith);
    apart = λ e. omega (arith, ap (label labels) e, p.reps_own 0 (omega arith), p.reps_own 1 (omega arith));
  }

-- the split of one label
module _ (ls : List Link) (S : ℕ → Bool) (g : Groups) (x k : ℕ) (r : Cut) (two : 2 ≤ length g.reps.items) (l : Lightest (label g.labels) ls (length g.reps.items) x k)
    (is : r.crossings ≡ k) (side : (d : ℕ) → d < 128 → set_of r.side d ≡ eqb (label g.labels d) x) where
  found_lightest : ((y : ℕ) → y < length g.reps.items → label g.reps.items y < 128)
      → ((y : ℕ) → y < length g.reps.items → S (label g.reps.items y) ≡ true)
      → ((y : ℕ) → y < length g.reps.items → label g.labels (label g.reps.items y) ≡ y)
      → Found ls S r
  found_lightest reps_low reps_in reps_own = (
    record {
      left = label g.reps.items x;
      right = label g.reps.items away.0;
      left_in = reps_in x l.low;
      right_in = reps_in away.0 away.1;
      left_side = side _ (reps_low x l.low) ∙ eq-eqb _ x (reps_own x l.low);
      right_side = side _ (reps_low away.0 away.1) ∙ ne_eqb _ x (λ z. away.2 (sym (reps_own away.0 away.1) ∙ z));
    },
    across_same _ _ ls side ∙ sym (is ∙ l.is),
  )
    where
      away : (y : ℕ) × (y < length g.reps.items) × (y ≡ x → ⊥)
      away = ⊎_elim (λ h. (1, omega arith, λ z. omega arith)) (λ h. (0, omega arith, λ z. omega arith)) (cases_lt x 1)

  pub merging_none : Numbered S g.labels g.reps.items (length g.reps.items) → ((d : ℕ) → S d ≡ true → d < 128) → Merging ls S g r
  merging_none p bounded = record {
    seen = λ A sp. inl (A, sp, (λ d h i. ap A (p.own d h i)), omega arith);
    bounded = bounded;
    low = λ d h. g.numbered d h (omega arith);
    reps_low = p.reps_low;
    reps_in = p.reps_in;
    reps_own = p.reps_own;
    found = found_lightest p.reps_low p.reps_in p.reps_own;
  }

  -- a lesser split, and nothing fused
  pub merging_lower : (b : Cut) → Merging ls S g b → k ≤ b.crossings → Merging ls S g r
  merging_lower b p less = record {
    seen = λ A sp. ⊎_elim (λ a. inl a) (λ h. inr (omega arith)) (p.seen A sp);
    bounded = p.bounded;
    low = p.low;
    reps_low = p.reps_low;
    reps_in = p.reps_in;
    reps_own = p.reps_own;
    found = found_lightest p.reps_low p.reps_in p.reps_own;
  }

module _ (ls : List Link) (S : ℕ → Bool) (g : Groups) (b : Cut) (p : Merging ls S g b) where
  -- one phase
  pub merging_more : (h : Groups) → Ends (λ d. d) S ls → Coarser ls b.crossings g h → Merging ls S h b
  merging_more h ends c = record {
    seen = λ A sp. ⊎_elim (λ q. next A q.0 q.1 q.2 q.3) (λ l. inr l) (p.seen A sp);
    bounded = p.bounded;
    low = λ d l. omega (arith, c.labels_are d l, c.fused.below _ (p.low d l));
    reps_low = λ y l. omega (arith, c.reps_are y l, p.reps_low _ (c.fused.firsts_low y l));
    reps_in = λ y l. ap S (c.reps_are y l) ∙ p.reps_in _ (c.fused.firsts_low y l);
    reps_own = λ y l.
        ap (label h.labels) (c.reps_are y l)
        ∙ (c.labels_are _ (p.reps_low _ (c.fused.firsts_low y l))
        ∙ (ap (label c.into) (p.reps_own _ (c.fused.firsts_low y l)) ∙ c.fused.firsts_own y l));
    found = p.found;
  }
    where
      two_from : (C : ℕ → Bool) → Split S C → Whole S g C → Two (length g.reps.items) (λ x. C (label g.reps.items x))
      two_from C sp same =
          let x = p.bounded sp.left sp.left_in in
          let y = p.bounded sp.right sp.right_in in (
            (label g.labels sp.left, p.low _ x, same _ x sp.left_in ∙ sp.left_side),
            (label g.labels sp.right, p.low _ y, same _ y sp.right_in ∙ sp.right_side),
          )

      split_from : (D : ℕ → Bool) → Two (length g.reps.items) D → Split S (λ d. D (label g.labels d))
      split_from D t = record {
        left = label g.reps.items t.0.0;
        right = label g.reps.items t.1.0;
        left_in = p.reps_in _ t.0.1;
        right_in = p.reps_in _ t.1.1;
        left_side = ap D (p.reps_own _ t.0.1) ∙ t.0.2;
        right_side = ap D (p.reps_own _ t.1.1) ∙ t.1.2;
      }

      again : (D : ℕ → Bool) → ((v : ℕ) → v < length g.reps.items → D (label c.firsts (label c.into v)) ≡ D v) → Whole S h (λ d. D (label g.labels d))
      again D eq d l i =
          ap (λ x. D (label g.labels (label h.reps.items x))) (c.labels_are d l)
          ∙ (ap (λ x. D (label g.labels x)) (c.reps_are (label c.into (label g.labels d)) (c.fused.below _ (p.low d l)))
          ∙ (ap D (p.reps_own _ (c.fused.firsts_low _ (c.fused.below _ (p.low d l))))
          ∙ eq (label g.labels d) (p.low d l)))

      next : (A C : ℕ → Bool) → Split S C → Whole S g C → across C ls ≤ across A ls → Seen ls S h b.crossings A
      next A C sp same le =
          let e = across_same_on S C (λ d. C (label g.reps.items (label g.labels d))) ls ends (λ d l i. sym (same d l i)) in
          ⊎_elim
          (λ q. inl ((λ d. q.0 (label g.labels d)), split_from q.0 q.1, again q.0 q.2, omega (arith, e, q.3)))
          (λ l. inr (omega (arith, e, l)))
          (c.fused.seen (λ x. C (label g.reps.items x)) (two_from C sp same))

  -- no split matters that is lesser than one at the floor or below
  pub merging_low : (floor : ℕ) → b.crossings ≤ floor → Weakest ls S floor b.crossings (set_of b.side)
  merging_low floor over = record {
    split = p.found.0;
    attained = p.found.1;
    least = λ above A sp. absurd (omega arith);
  }

  -- one group is left, and no split parts it
  pub merging_all : (floor : ℕ) → length g.reps.items < 2 → Weakest ls S floor b.crossings (set_of b.side)
  merging_all floor few = record {
    split = p.found.0;
    attained = p.found.1;
    least = λ above A sp. ⊎_elim (λ q. absurd (one_group q.0 q.1 q.2)) (λ h. h) (p.seen A sp);
  }
    where
      one_group : (C : ℕ → Bool) → Split S C → Whole S g C → ⊥
      one_group C sp same =
          let x = p.bounded sp.left sp.left_in in
          let y = p.bounded sp.right sp.right_in in
          true≢false (
          sym sp.left_side
          ∙ (sym (same sp.left x sp.left_in)
          ∙ (ap (λ z. C (label g.reps.items z)) (omega (arith, p.low sp.left x, p.low sp.right y))
          ∙ (same sp.right y sp.right_in ∙ sp.right_side))))
