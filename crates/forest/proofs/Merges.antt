-- One cable more, and the labels of its ends made one: labels tell again what is linked. Assumes nothing.
use Rattle.std.proofs.Common.{◌≡◌, ℕ, ◌<◌, eqb, ◌⊎◌, List, length, sym, ap, ◌∙◌, subst, subst₂, inl, inr}
use Rattle.std.proofs.lemmas.Bool.{eq-eqb, ne_eqb, cases_eq, cond-true, cond-false}
use Rattle.network.specs.declared.cable.Cable.{Cable}
use Rattle.network.specs.Chains.{Linked, stay}
use Rattle.network.proofs.Links.{linked_join, linked_over, linked_back, linked_map}
use Rattle.forest.specs.Labels.{relabel, Merged, Alike, Labelled}
use Rattle.cuts.specs.Links.{label}
use Rattle.forest.proofs.Relinks.{linked_keeps}

pub relabel_old : (old new v : ℕ) → v ≡ old → relabel old new v ≡ new
relabel_old old new v e = cond-true (eqb v old) new v (eq-eqb v old e)

pub relabel_other : (old new v : ℕ) → (v ≡ old → ⊥) → relabel old new v ≡ v
relabel_other old new v e = cond-false (eqb v old) new v (ne_eqb v old e)

relabel_new : (old new : ℕ) → relabel old new new ≡ new
relabel_new old new = elim (cases_eq new old) [ inl e ↦ relabel_old old new new e | inr n ↦ relabel_other old new new n ]

relabel_small : (old new v : ℕ) → v < 128 → new < 128 → relabel old new v < 128
relabel_small old new v h k =
    elim (cases_eq v old) [ inl e ↦ rw (relabel_old old new v e) k | inr n ↦ rw (relabel_other old new v n) h ]

pub merged_ends : (ls ls' : List ℕ) (a b : ℕ) (c : Cable) → a ≡ c.a → b ≡ c.b → Merged ls (label ls a) (label ls b) ls' → Merged ls (label ls c.a) (label ls c.b) ls'
merged_ends ls ls' a b c e f m = subst₂ (λ x y. Merged ls (label ls x) (label ls y) ls') e f m

-- cables with one label at their ends keep one
pub merged_alike : {ls ls' : List ℕ} {old new : ℕ} (c : Cable) → Merged ls old new ls' → c.a < 128 → c.b < 128 → Alike ls c → Alike ls' c
merged_alike {old = old} {new = new} c m ha hb same = m.each c.a ha ∙ ap (relabel old new) same ∙ sym (m.each c.b hb)

module _ {P Q : Cable → Type 0} {ls ls' : List ℕ} (e : Cable) (ea : e.a < 128) (eb : e.b < 128) (was : Labelled ls P)
    (more : (c : Cable) → P c → Q c) (here : Q e) (only : (c : Cable) → Q c → P c ⊎ (c ≡ e)) (merged : Merged ls (label ls e.a) (label ls e.b) ls') where
  ends : (c : Cable) → P c ⊎ (c ≡ e) → (c.a < 128) × (c.b < 128)
  ends c (inl p) = was.ranged c p
  ends c (inr q) = (rw q ea, rw q eb)

  still : (c : Cable) → P c ⊎ (c ≡ e) → relabel (label ls e.a) (label ls e.b) (label ls c.a) ≡ relabel (label ls e.a) (label ls e.b) (label ls c.b)
  still c (inl p) = ap (relabel (label ls e.a) (label ls e.b)) (was.sound c p)
  still c (inr q) =
      let old = label ls e.a in
      let new = label ls e.b in
      relabel_old old new (label ls c.a) (ap (λ (x : Cable). label ls x.a) q)
      ∙ sym (relabel_new old new)
      ∙ ap (λ (x : Cable). relabel old new (label ls x.b)) (sym q)

  linked : (x y : ℕ) → x < 128 → y < 128 → label ls x ≡ label ls y → Linked Q x y
  linked x y hx hy h = linked_map more (was.whole x y hx hy h)

  joined : (x y : ℕ) → x < 128 → y < 128 → relabel (label ls e.a) (label ls e.b) (label ls x) ≡ relabel (label ls e.a) (label ls e.b) (label ls y) → Linked Q x y
  joined x y hx hy h =
      let old = label ls e.a in
      let new = label ls e.b in
      elim (cases_eq (label ls x) old) [
        | inl x-old ↦ elim (cases_eq (label ls y) old) [
          | inl y-old ↦ linked x y hx hy (x-old ∙ sym y-old)
          | inr y-not ↦
              let y_new : new ≡ label ls y = sym (relabel_old old new (label ls x) x-old) ∙ h ∙ relabel_other old new (label ls y) y-not in
              linked_join (linked x e.a hx ea x-old) (linked_join (linked_over e here) (linked e.b y eb hy y_new))
        ]
        | inr x-not ↦ elim (cases_eq (label ls y) old) [
          | inl y-old ↦
              let x_new : label ls x ≡ new = sym (relabel_other old new (label ls x) x-not) ∙ h ∙ relabel_old old new (label ls y) y-old in
              linked_join (linked x e.b hx eb x_new) (linked_join (linked_back e here) (linked e.a y ea hy (sym y-old)))
          | inr y-not ↦ linked x y hx hy (sym (relabel_other old new (label ls x) x-not) ∙ h ∙ relabel_other old new (label ls y) y-not)
        ]
      ]

  pub labelled_more : Labelled ls' Q
  labelled_more = record {
    size = merged.size;
    small = λ d h. rw (merged.each d h) (relabel_small (label ls e.a) (label ls e.b) (label ls d) (was.small d h) (was.small e.b eb));
    ranged = λ c q. ends c (only c q);
    sound = λ c q. let r = ends c (only c q) in merged.each c.a r.0 ∙ still c (only c q) ∙ sym (merged.each c.b r.1);
    whole = λ x y hx hy h. joined x y hx hy (sym (merged.each x hx) ∙ h ∙ merged.each y hy);
  }

-- no cable yet, and each device has its own number for a label
pub labelled_none : {P : Cable → Type 0} {ls : List ℕ} → length ls ≡ 128 → ((d : ℕ) → d < 128 → label ls d ≡ d) → ((c : Cable) → P c → ⊥) → Labelled ls P
labelled_none {P} {ls} size own empty = record {
  size = size;
  small = λ d h. rw (own d h) h;
  ranged = λ c p. absurd (empty c p);
  sound = λ c p. absurd (empty c p);
  whole = λ x y hx hy h. subst (Linked P x) (sym (own x hx) ∙ h ∙ own y hy) stay;
}

-- the same cables under another name
pub labelled_same : {P Q : Cable → Type 0} {ls : List ℕ} → ((c : Cable) → P c → Q c) → ((c : Cable) → Q c → P c) → Labelled ls P → Labelled ls Q
labelled_same to from was = record {
  size = was.size;
  small = was.small;
  ranged = λ c q. was.ranged c (from c q);
  sound = λ c q. was.sound c (from c q);
  whole = λ x y hx hy h. linked_map to (was.whole x y hx hy h);
}

-- linked devices have one label
pub linked_label : {P : Cable → Type 0} {ls : List ℕ} → Labelled ls P → {x y : ℕ} → Linked P x y → label ls x ≡ label ls y
linked_label {ls = ls} was k = linked_keeps (label ls) was.sound k
