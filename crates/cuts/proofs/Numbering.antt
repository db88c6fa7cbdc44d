-- Numbering the devices of a set, by one more device at a time.
use Rattle.std.proofs.Common.{◌≡◌, ℕ, ◌+◌, ◌<◌, ◌≤◌, Bool, true, false, List, [], ◌∷◌, ◌++◌, length, set, replicate, sym, refl, ap, ◌∙◌, subst, ⊎_elim, arith}
use Rattle.std.proofs.lemmas.List.{get_or-set_same, get_or-set_other, length-set, get_or-replicate, get_or_append_left, length-append}
use Rattle.std.proofs.Math.Seq.{get_or-append_seam}
use Rattle.std.proofs.lemmas.Bool.{cases_Bool, true≢false}
use Rattle.cuts.specs.Links.{label}
use Rattle.cuts.specs.Groups.{Numbered}
use Rattle.cuts.proofs.Below.{last_or_below}

-- what the loop of `number` keeps: the devices below i are numbered
pub record Numbering (S : ℕ → Bool) (i : ℕ) (labels reps : List ℕ) (n : ℕ) : Type 0 where
  pub fits : n ≤ i
  pub inner : (d : ℕ) → d < i → S d ≡ true → label labels d < n
  pub outer : (d : ℕ) → d < i → S d ≡ false → label labels d ≡ 0
  pub own : (d : ℕ) → d < i → S d ≡ true → label reps (label labels d) ≡ d
  pub reps_low : (x : ℕ) → x < n → label reps x < i
  pub reps_in : (x : ℕ) → x < n → S (label reps x) ≡ true
  pub reps_own : (x : ℕ) → x < n → label labels (label reps x) ≡ x
  pub later : (d : ℕ) → i ≤ d → d < 128 → label labels d ≡ 0
  pub long_labels : length labels ≡ 128
  pub count : length reps ≡ n

pub numbering_none : (S : ℕ → Bool) → Numbering S 0 (replicate 128 0) [] 0
numbering_none S = record {
  fits = omega arith;
  inner = λ d h. absurd (omega arith);
  outer = λ d h. absurd (omega arith);
  own = λ d h. absurd (omega arith);
  reps_low = λ x h. absurd (omega arith);
  reps_in = λ x h. absurd (omega arith);
  reps_own = λ x h. absurd (omega arith);
  later = λ d _ h. get_or-replicate 128 d 0 0 h;
  long_labels = refl;
  count = refl;
}

module _ (S : ℕ → Bool) (i : ℕ) (labels reps : List ℕ) (n : ℕ) (p : Numbering S i labels reps n) (l : i < 128) where
  pub numbering_no : S i ≡ false → Numbering S (i + 1) labels reps n
  numbering_no out = record {
    fits = omega (arith, p.fits);
    inner = λ d h s. ⊎_elim (λ e. absurd (true≢false (sym s ∙ (ap S e ∙ out)))) (λ b. p.inner d b s) (last_or_below d i h);
    outer = λ d h s. ⊎_elim (λ e. p.later d (omega arith) (omega arith)) (λ b. p.outer d b s) (last_or_below d i h);
    own = λ d h s. ⊎_elim (λ e. absurd (true≢false (sym s ∙ (ap S e ∙ out)))) (λ b. p.own d b s) (last_or_below d i h);
    reps_low = λ x h. omega (arith, p.reps_low x h);
    reps_in = p.reps_in;
    reps_own = p.reps_own;
    later = λ d h l. p.later d (omega arith) l;
    long_labels = p.long_labels;
    count = p.count;
  }

  pub numbering_yes : S i ≡ true → Numbering S (i + 1) (set labels i n) (reps ++ i ∷ []) (n + 1)
  numbering_yes ins = record {
    fits = omega (arith, p.fits);
    inner = λ d h s. ⊎_elim (λ e. omega (arith, ap (label (set labels i n)) e, label_i)) (λ b. omega (arith, label_d d b, p.inner d b s)) (last_or_below d i h);
    outer = λ d h s. ⊎_elim (λ e. absurd (true≢false (sym ins ∙ (ap S (sym e) ∙ s)))) (λ b. label_d d b ∙ p.outer d b s) (last_or_below d i h);
    own = λ d h s. ⊎_elim
        (λ e. subst (λ z. label (reps ++ i ∷ []) (label (set labels i n) z) ≡ z) (sym e) (ap (label (reps ++ i ∷ [])) label_i ∙ rep_n))
        (λ b. ap (label (reps ++ i ∷ [])) (label_d d b) ∙ (rep_x (label labels d) (p.inner d b s) ∙ p.own d b s))
        (last_or_below d i h);
    reps_low = λ x h. ⊎_elim (λ e. omega (arith, ap (label (reps ++ i ∷ [])) e, rep_n)) (λ b. omega (arith, rep_x x b, p.reps_low x b)) (last_or_below x n h);
    reps_in = λ x h. ⊎_elim (λ e. subst (λ z. S (label (reps ++ i ∷ []) z) ≡ true) (sym e) (ap S rep_n ∙ ins)) (λ b. ap S (rep_x x b) ∙ p.reps_in x b) (last_or_below x n h);
    reps_own = λ x h. ⊎_elim
        (λ e. subst (λ z. label (set labels i n) (label (reps ++ i ∷ []) z) ≡ z) (sym e) (ap (label (set labels i n)) rep_n ∙ label_i))
        (λ b. ap (label (set labels i n)) (rep_x x b) ∙ (label_d (label reps x) (p.reps_low x b) ∙ p.reps_own x b))
        (last_or_below x n h);
    later = λ d h l. get_or-set_other labels i d n 0 (λ e. omega arith) ∙ p.later d (omega arith) l;
    long_labels = length-set labels i n ∙ p.long_labels;
    count = omega (arith, length-append reps (i ∷ []), p.count);
  }
    where
      label_i : label (set labels i n) i ≡ n
      label_i = get_or-set_same labels i n 0 (omega (arith, p.long_labels))

      label_d : (d : ℕ) → d < i → label (set labels i n) d ≡ label labels d
      label_d d b = get_or-set_other labels i d n 0 (λ e. omega arith)

      rep_n : label (reps ++ i ∷ []) n ≡ i
      rep_n = subst (λ z. label (reps ++ i ∷ []) z ≡ i) p.count (get_or-append_seam reps i [] 0)

      rep_x : (x : ℕ) → x < n → label (reps ++ i ∷ []) x ≡ label reps x
      rep_x x b = get_or_append_left reps (i ∷ []) 0 x (omega (arith, p.count))

pub numbering_all : (S : ℕ → Bool) (i : ℕ) (labels reps : List ℕ) (n : ℕ) → i ≡ 128 → Numbering S i labels reps n → Numbered S labels reps n
numbering_all S i labels reps n e q =
    let p : Numbering S 128 labels reps n = subst (λ z. Numbering S z labels reps n) e q in
    record { fits = p.fits; inner = p.inner; outer = p.outer; own = p.own; reps_low = p.reps_low; reps_in = p.reps_in; reps_own = p.reps_own }

pub numbering_at : (S : ℕ → Bool) (i : ℕ) (labels reps labels' reps' : List ℕ) (n' : ℕ) → labels ≡ labels' → reps ≡ reps' → Numbering S i labels' reps' n' → Numbering S i labels reps (length reps)
numbering_at S i labels reps labels' reps' n' a b p =
    subst (λ z. Numbering S i z reps (length reps)) (sym a) (subst (λ z. Numbering S i labels' z (length z)) (sym b) (subst (λ z. Numbering S i labels' reps' z) (sym p.count) p))

-- the labels are in range
module _ (S : ℕ → Bool) (labels reps : List ℕ) (n : ℕ) (p : Numbered S labels reps n) where
  pub numbered_low : (d : ℕ) → d < 128 → label labels d < 128
  numbered_low d h = ⊎_elim (λ i. omega (arith, p.inner d h i, p.fits)) (λ o. omega (arith, p.outer d h o)) (cases_Bool (S d))

  pub numbered_below : (d : ℕ) → d < 128 → 0 < n → label labels d < n
  numbered_below d h some = ⊎_elim (λ i. p.inner d h i) (λ o. omega (arith, p.outer d h o)) (cases_Bool (S d))
