-- Labels, which each cable that stays makes equal at its ends: two devices are linked, or the labels part them. Assumes nothing.
use Rattle.std.proofs.Common.{◌≡◌, ℕ, zero, suc, ◌≤◌, Bool, true, false, cond, not, ◌&&◌, eqb, ◌⊎◌, List, [], ◌∷◌, Some, sym, refl, ap, ◌∙◌, subst, inl, inr, ⊎_elim, arith}
use Rattle.std.specs.List.{slice_get}
use Rattle.std.proofs.lemmas.Bool.{and_parts, and_from, eq-eqb, ne_eqb, cases_Bool, cases_eq, cond-true, cond-false, not-true, not_from_false}
use Rattle.network.specs.Sets.{WeakSplit, belongs, crosses, crossings}
use Rattle.network.specs.Chains.{Linked, stay, Stays, lost}
use Rattle.network.specs.declared.cable.Cable.{Cable}
use Rattle.network.proofs.Counts.{one_le, count_cons}
use Rattle.network.proofs.Sides.{crosses_belongs, crosses_parts}
use Rattle.network.proofs.Links.{linked_join, linked_over, linked_back, linked_map}

-- the label b becomes a
abbrev merge : (a b l : ℕ) → ℕ
merge a b l = cond (eqb l b) a l

merge_at : (a b l : ℕ) → l ≡ b → merge a b l ≡ a
merge_at a b l e = cond-true (eqb l b) a l (eq-eqb l b e)

merge_off : (a b l : ℕ) → (l ≡ b → ⊥) → merge a b l ≡ l
merge_off a b l n = cond-false (eqb l b) a l (ne_eqb l b n)

merge_both : (a b : ℕ) → merge a b a ≡ merge a b b
merge_both a b = ⊎_elim (λ e. merge_at a b a e) (λ n. merge_off a b a n) (cases_eq a b) ∙ sym (merge_at a b b refl)

-- what it says that two merged labels are equal
merge_says : (a b l m : ℕ) → merge a b l ≡ merge a b m → (l ≡ m) ⊎ (((l ≡ b) × (a ≡ m)) ⊎ ((l ≡ a) × (b ≡ m)))
merge_says a b l m e = go (cases_eq l b) (cases_eq m b)
  where
    go : (l ≡ b) ⊎ (l ≡ b → ⊥) → (m ≡ b) ⊎ (m ≡ b → ⊥) → (l ≡ m) ⊎ (((l ≡ b) × (a ≡ m)) ⊎ ((l ≡ a) × (b ≡ m)))
    go (inl f) (inl g) = inl (f ∙ sym g)
    go (inl f) (inr g) = inr (inl (f, sym (merge_at a b l f) ∙ e ∙ merge_off a b m g))
    go (inr f) (inl g) = inr (inr (sym (merge_off a b l f) ∙ e ∙ merge_at a b m g, sym g))
    go (inr f) (inr g) = inl (sym (merge_off a b l f) ∙ e ∙ merge_off a b m g)

-- the cable at the first place stays
abbrev first_stays : (gone S : ℕ → Bool) → Cable → Bool
first_stays gone S c = not (gone 0) && belongs S c

abbrev pub labels : (gone S : ℕ → Bool) → List Cable → ℕ → ℕ
labels gone S [] d = d
labels gone S (c ∷ cs) d = cond (first_stays gone S c)
    (merge (labels (λ i. gone (suc i)) S cs c.a) (labels (λ i. gone (suc i)) S cs c.b) (labels (λ i. gone (suc i)) S cs d))
    (labels (λ i. gone (suc i)) S cs d)

stays_later : (gone S : ℕ → Bool) (b : Cable) (cs : List Cable) (c : Cable) → Stays cs S (λ i. gone (suc i)) c → Stays (b ∷ cs) S gone c
stays_later gone S b cs c (i, st, g, m) = (suc i, st, g, m)

stays_first : (gone S : ℕ → Bool) (c : Cable) (cs : List Cable) → first_stays gone S c ≡ true → Stays (c ∷ cs) S gone c
stays_first gone S c cs e = let r = and_parts (not (gone 0)) (belongs S c) e in (zero, refl, not-true (gone 0) r.0, r.1)

-- devices with one label are linked
pub labels_link : (gone S : ℕ → Bool) (cs : List Cable) (u v : ℕ) → labels gone S cs u ≡ labels gone S cs v → Linked (Stays cs S gone) u v
labels_link gone S [] u v e = subst (λ w. Linked (Stays [] S gone) u w) e stay
labels_link gone S (c ∷ cs) u v e = go (labels_link (λ i. gone (suc i)) S cs) (cases_Bool (first_stays gone S c))
  where
    lab : ℕ → ℕ
    lab = labels (λ i. gone (suc i)) S cs

    go : ((x y : ℕ) → lab x ≡ lab y → Linked (Stays cs S (λ i. gone (suc i))) x y) → (first_stays gone S c ≡ true) ⊎ (first_stays gone S c ≡ false) → Linked (Stays (c ∷ cs) S gone) u v
    go ih s = ⊎_elim on off s
      where
        later : (x y : ℕ) → lab x ≡ lab y → Linked (Stays (c ∷ cs) S gone) x y
        later x y f = linked_map (stays_later gone S c cs) (ih x y f)

        off : first_stays gone S c ≡ false → Linked (Stays (c ∷ cs) S gone) u v
        off o = later u v (sym (cond-false (first_stays gone S c) (merge (lab c.a) (lab c.b) (lab u)) (lab u) o) ∙ e ∙ cond-false (first_stays gone S c) (merge (lab c.a) (lab c.b) (lab v)) (lab v) o)

        on : first_stays gone S c ≡ true → Linked (Stays (c ∷ cs) S gone) u v
        on i = by (merge_says (lab c.a) (lab c.b) (lab u) (lab v)
            (sym (cond-true (first_stays gone S c) (merge (lab c.a) (lab c.b) (lab u)) (lab u) i) ∙ e ∙ cond-true (first_stays gone S c) (merge (lab c.a) (lab c.b) (lab v)) (lab v) i))
          where
            by : (lab u ≡ lab v) ⊎ (((lab u ≡ lab c.b) × (lab c.a ≡ lab v)) ⊎ ((lab u ≡ lab c.a) × (lab c.b ≡ lab v))) → Linked (Stays (c ∷ cs) S gone) u v
            by (inl f) = later u v f
            by (inr (inl (f, g))) = linked_join (later u c.b f) (linked_join (linked_back c (stays_first gone S c cs i)) (later c.a v g))
            by (inr (inr (f, g))) = linked_join (later u c.a f) (linked_join (linked_over c (stays_first gone S c cs i)) (later c.b v g))

-- a cable that stays has one label at its ends
labels_ends : (gone S : ℕ → Bool) (cs : List Cable) (i : ℕ) (c : Cable) → slice_get cs i ≡ Some c → gone i ≡ false → belongs S c ≡ true → labels gone S cs c.a ≡ labels gone S cs c.b
labels_ends gone S [] i c st g m = let z : ◌≡◌ {A = ℕ} 0 1 = cc in absurd (omega arith)
labels_ends gone S (b ∷ cs) zero c st g m =
    let e : b ≡ c = cc in
    subst (λ x. labels gone S (b ∷ cs) x.a ≡ labels gone S (b ∷ cs) x.b) e
    (cond-true s (merge x y x) x i ∙ merge_both x y ∙ sym (cond-true s (merge x y y) y i))
  where
    x : ℕ
    x = labels (λ i. gone (suc i)) S cs b.a

    y : ℕ
    y = labels (λ i. gone (suc i)) S cs b.b

    s : Bool
    s = first_stays gone S b

    i : s ≡ true
    i = let e : b ≡ c = cc in and_from (not (gone 0)) (belongs S b) (not_from_false (gone 0) g) (ap (belongs S) e ∙ m)
labels_ends gone S (b ∷ cs) (suc i) c st g m = ap
    (λ l. cond (first_stays gone S b) (merge (labels (λ i. gone (suc i)) S cs b.a) (labels (λ i. gone (suc i)) S cs b.b) l) l)
    (labels_ends (λ i. gone (suc i)) S cs i c st g m)

-- what crosses a side that no cable that stays does is gone
pub crossings_lost : (gone S side : ℕ → Bool) (cs : List Cable) → ((c : Cable) → Stays cs S gone c → side c.a ≡ side c.b) → crossings cs S side ≤ lost gone S cs
crossings_lost gone S side [] same = omega arith
crossings_lost gone S side (c ∷ cs) same =
    omega (arith, count_cons (crosses S side) c cs, first, crossings_lost (λ i. gone (suc i)) S side cs (λ d h. same d (stays_later gone S c cs d h)))
  where
    taken : crosses S side c ≡ true → gone 0 ≡ true
    taken e = ⊎_elim (λ t. t) (λ f. absurd (crosses_parts S side c e (same c (zero, refl, f, crosses_belongs S side c e)))) (cases_Bool (gone 0))

    first : cond (crosses S side c) 1 0 ≤ cond (gone 0 && belongs S c) 1 0
    first = one_le (crosses S side c) (gone 0 && belongs S c) (λ e. and_from (gone 0) (belongs S c) (taken e) (crosses_belongs S side c e))

-- two devices of the set are linked by what stays of its cables, or some split has no more crossings than it lost
pub linked_or_parted : (gone S : ℕ → Bool) (cs : List Cable) (u v : ℕ) → S u ≡ true → S v ≡ true → Linked (Stays cs S gone) u v ⊎ WeakSplit cs S (lost gone S cs)
linked_or_parted gone S cs u v iu iv = ⊎_elim (λ e. inl (labels_link gone S cs u v e)) (λ n. inr (parted n)) (cases_eq (lab u) (lab v))
  where
    lab : ℕ → ℕ
    lab = labels gone S cs

    parted : (lab u ≡ lab v → ⊥) → WeakSplit cs S (lost gone S cs)
    parted n = record {
      side = λ d. eqb (lab u) (lab d);
      split = record { left = u; right = v; left_in = iu; right_in = iv; left_side = eq-eqb (lab u) (lab u) refl; right_side = ne_eqb (lab u) (lab v) n };
      few = crossings_lost gone S (λ d. eqb (lab u) (lab d)) cs (λ c (i, st, g, m). ap (λ l. eqb (lab u) l) (labels_ends gone S cs i c st g m));
    }

-- no place is gone
abbrev pub nowhere : ℕ → Bool
nowhere i = false

pub lost_nowhere : (S : ℕ → Bool) (cs : List Cable) → lost nowhere S cs ≡ 0
lost_nowhere S [] = refl
lost_nowhere S (c ∷ cs) = omega (arith, lost_nowhere S cs)
