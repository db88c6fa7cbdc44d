-- How many labels are in use: fewer after a merge, and never none. Assumes nothing.
use Rattle.std.proofs.Common.{◌≡◌, ℕ, zero, suc, ◌+◌, ◌<◌, ◌≤◌, Bool, true, false, cond, eqb, ◌⊎◌, List, [], ◌∷◌, length, sym, refl, ap, ◌∙◌, inl, inr, arith}
use Rattle.std.specs.List.{list_any}
use Rattle.std.proofs.lemmas.List.Folds.{list_any_at}
use Rattle.std.proofs.lemmas.Bool.{eq-eqb, eqb-true, cases_eq, cases_Bool, both_ways, or_cases}
use Rattle.network.proofs.Counts.{one_le}
use Rattle.network.specs.declared.cable.Cable.{Cable}
use Rattle.forest.specs.Labels.{relabel, Merged, Labelled}
use Rattle.cuts.specs.Links.{label}
use Rattle.forest.proofs.Merges.{relabel_old, relabel_other}

-- of the numbers below n, how many pass the test
unfoldable pub passing : (ℕ → Bool) → ℕ → ℕ
passing p zero = 0
passing p (suc n) = cond (p n) 1 0 + passing p n

abbrev pub occurs : List ℕ → ℕ → Bool
occurs ls v = list_any (λ x. eqb x v) ls

-- the labels in use
unfoldable pub classes : List ℕ → ℕ
classes ls = passing (occurs ls) 128

bit_top : (x : Bool) → cond {A = ℕ} x 1 0 ≤ 1
bit_top true = omega arith
bit_top false = omega arith

passing_le : (p q : ℕ → Bool) (n : ℕ) → ((v : ℕ) → q v ≡ true → p v ≡ true) → passing q n ≤ passing p n
unfolding passing
passing_le p q zero h = omega arith
passing_le p q (suc n) h = omega (arith, one_le (q n) (p n) (h n), passing_le p q n h)

passing_max : (p : ℕ → Bool) (n : ℕ) → passing p n ≤ n
unfolding passing
passing_max p zero = omega arith
passing_max p (suc n) = omega (arith, bit_top (p n), passing_max p n)

passing_less : (p q : ℕ → Bool) (n o : ℕ) → ((v : ℕ) → q v ≡ true → p v ≡ true) → o < n → p o ≡ true → q o ≡ false → passing q n < passing p n
unfolding passing
passing_less p q zero o h l po qo = omega arith
passing_less p q (suc n) o h l po qo = at_top (cases_eq o n) (λ o-in. passing_less p q n o h o-in po qo)
  where
    at_top : (o ≡ n) ⊎ (o ≡ n → ⊥) → (o < n → passing q n < passing p n) → cond (q n) 1 0 + passing q n < cond (p n) 1 0 + passing p n
    at_top (inl e) below =
        let pn : p n ≡ true = ap p (sym e) ∙ po in
        let qn : q n ≡ false = ap q (sym e) ∙ qo in
        rw (pn, qn) (omega (arith, passing_le p q n h))
    at_top (inr ne) below = let o-in : o < n = omega arith in omega (arith, one_le (q n) (p n) (h n), below o-in)

passing_some : (p : ℕ → Bool) (n o : ℕ) → o < n → p o ≡ true → 0 < passing p n
passing_some p n o l po = omega (arith, passing_less p (λ v. false) n o (λ v e. absurd (both_ways false refl e)) l po refl)

occurs_at : (ls : List ℕ) (d : ℕ) → d < length ls → occurs ls (label ls d) ≡ true
occurs_at ls d h = list_any_at (λ x. eqb x (label ls d)) ls d 0 h (eq-eqb (label ls d) (label ls d) refl)

occurs_where : (ls : List ℕ) (v : ℕ) → occurs ls v ≡ true → (d : ℕ) × (d < length ls) × (label ls d ≡ v)
occurs_where [] v h = absurd (both_ways false refl h)
occurs_where (x ∷ xs) v h = found (or_cases (eqb x v) (occurs xs v) h) (occurs_where xs v)
  where
    found : (eqb x v ≡ true) ⊎ (occurs xs v ≡ true) → (occurs xs v ≡ true → (d : ℕ) × (d < length xs) × (label xs d ≡ v)) → (d : ℕ) × (d < length (x ∷ xs)) × (label (x ∷ xs) d ≡ v)
    found (inl e) rest = (zero, omega arith, eqb-true x v e)
    found (inr o) rest = let r = rest o in (suc r.0, omega (arith, r.1), r.2)

module _ {P : Cable → Type 0} {ls ls' : List ℕ} (a b : ℕ) (ha : a < 128) (hb : b < 128) (was : Labelled ls P)
    (parts : label ls a ≡ label ls b → ⊥) (merged : Merged ls (label ls a) (label ls b) ls') where
  was_label : (d : ℕ) → d < length ls' → (d < length ls) × (label ls' d ≡ relabel (label ls a) (label ls b) (label ls d))
  was_label d h = (omega (arith, was.size, merged.size), merged.each d (omega (arith, merged.size)))

  none_more : (v : ℕ) → occurs ls' v ≡ true → occurs ls v ≡ true
  none_more v h =
      let r = occurs_where ls' v h in
      let o = was_label r.0 r.1 in
      let b_in : b < length ls = omega (arith, was.size) in
      elim (cases_eq (label ls r.0) (label ls a)) [
        | inl e ↦
            let is : label ls b ≡ v = sym (relabel_old (label ls a) (label ls b) (label ls r.0) e) ∙ sym o.1 ∙ r.2 in
            rw is at (occurs_at ls b b_in)
        | inr n ↦
            let is : label ls r.0 ≡ v = sym (relabel_other (label ls a) (label ls b) (label ls r.0) n) ∙ sym o.1 ∙ r.2 in
            rw is at (occurs_at ls r.0 o.0)
      ]

  gone : occurs ls' (label ls a) ≡ true → ⊥
  gone h =
      let r = occurs_where ls' (label ls a) h in
      let o = was_label r.0 r.1 in
      elim (cases_eq (label ls r.0) (label ls a)) [
        | inl e ↦ parts (sym (sym (relabel_old (label ls a) (label ls b) (label ls r.0) e) ∙ sym o.1 ∙ r.2))
        | inr n ↦ n (sym (relabel_other (label ls a) (label ls b) (label ls r.0) n) ∙ sym o.1 ∙ r.2)
      ]

  pub classes_fall : classes ls' < classes ls
  unfolding classes
  classes_fall =
      let a_in : a < length ls = omega (arith, was.size) in
      let out : occurs ls' (label ls a) ≡ false = elim (cases_Bool (occurs ls' (label ls a))) [ inl t ↦ absurd (gone t) | inr f ↦ f ] in
      passing_less (occurs ls) (occurs ls') 128 (label ls a) none_more (was.small a ha) (occurs_at ls a a_in) out

pub classes_some : {P : Cable → Type 0} {ls : List ℕ} → Labelled ls P → 0 < classes ls
unfolding classes
classes_some {ls = ls} was =
    let held : 0 < length ls = omega (arith, was.size) in
    passing_some (occurs ls) 128 (label ls 0) (was.small 0 (omega arith)) (occurs_at ls 0 held)

pub classes_max : (ls : List ℕ) → classes ls ≤ 128
unfolding classes
classes_max ls = passing_max (occurs ls) 128
