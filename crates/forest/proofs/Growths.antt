-- The forest as it grows, cable by cable, and that it spans in the end. Assumes nothing.
use Rattle.std.proofs.Common.{◌≡◌, ℕ, ◌+◌, ◌<◌, ◌≤◌, Bool, true, ◌⊎◌, List, length, Some, None, sym, refl, ap, ◌∙◌, subst, subst₂, inl, inr, ⊎_elim, arith}
use Rattle.std.specs.List.{slice_get}
use Rattle.std.proofs.lemmas.Bool.{cases_eq, cases_lt}
use Rattle.network.specs.declared.cable.Cable.{Cable}
use Rattle.network.specs.Cables.{Lawful}
use Rattle.network.specs.Chains.{Linked}
use Rattle.network.proofs.Links.{linked_map}
use Rattle.network.proofs.Places.{one_place, place_low}
use Rattle.forest.specs.declared.crossing.Found.{Found}
use Rattle.forest.specs.Order.{Laws}
use Rattle.forest.specs.Labels.{Merged, Alike, Labelled}
use Rattle.cuts.specs.Links.{label}
use Rattle.forest.specs.Crossings.{Crosses, Best}
use Rattle.forest.specs.Forests.{Before, Kept, KeptReaching, Spans}
use Rattle.forest.proofs.Relinks.{relink}
use Rattle.forest.proofs.Orders.{reach_self}
use Rattle.forest.proofs.Merges.{merged_ends, merged_alike, labelled_more, labelled_none, linked_label}
use Rattle.forest.proofs.Classes.{classes, classes_fall, classes_some, classes_max}

-- what holds between two turns
pub record Grown {G : Type 0} (over : G → G → Bool) (cs : List Cable) (grade : ℕ → G) (place : ℕ → ℕ) (n : ℕ) (ls : List ℕ) : Type 0 where
  pub labelled : Labelled ls (Kept cs place n)
  pub laid : (j : ℕ) → j < n → place j < length cs
  -- a cable inside a label has its ends linked by kept cables as good as it
  pub inner : (i : ℕ) (c : Cable) → slice_get cs i ≡ Some c → Alike ls c → Linked (KeptReaching over cs grade place n (grade i)) c.a c.b
  -- what is kept reaches each cable that crosses
  pub outer : (j i : ℕ) (c : Cable) → j < n → slice_get cs i ≡ Some c → (Alike ls c → ⊥) → over (grade (place j)) (grade i) ≡ true
  pub falling : (j k : ℕ) → j ≤ k → k < n → over (grade (place j)) (grade (place k)) ≡ true
  pub fresh : (k : ℕ) (c : Cable) → k < n → slice_get cs (place k) ≡ Some c → Linked (Kept cs place k) c.a c.b → ⊥
  pub few : n + classes ls ≤ 128

pub grown_none : {G : Type 0} {over : G → G → Bool} {cs : List Cable} {grade : ℕ → G} {place : ℕ → ℕ} {n : ℕ} {ls : List ℕ} → Lawful cs → n ≡ 0 → length ls ≡ 128 → ((d : ℕ) → d < 128 → label ls d ≡ d)
    → Grown over cs grade place n ls
grown_none {cs = cs} {place = place} {n = n} {ls = ls} lawful zero size own = record {
  labelled = labelled;
  laid = λ j h. absurd (omega arith);
  inner = λ i c st same. let r = lawful i c st in linked_map (λ d p. absurd (none d p)) (labelled.whole c.a c.b r.0 r.1 same);
  outer = λ j i c h st parted. absurd (omega arith);
  falling = λ j k h l. absurd (omega arith);
  fresh = λ k c h st links. omega arith;
  few = omega (arith, classes_max ls);
}
  where
    none : (c : Cable) → Kept cs place n c → ⊥
    none c p = omega (arith, zero, p.2.1)

    labelled : Labelled ls (Kept cs place n)
    labelled = labelled_none size own none

module _ {G : Type 0} {over : G → G → Bool} {cs : List Cable} {grade : ℕ → G} {place : ℕ → ℕ} {n : ℕ} {ls : List ℕ}
    (laws : Laws over) (lawful : Lawful cs) (was : Grown over cs grade place n ls) where
  -- no cable crosses: the forest spans
  pub grown_all : Best over cs grade ls (length cs) None → Spans over cs grade place n
  grown_all none = record {
    laid = was.laid;
    falling = was.falling;
    fresh = was.fresh;
    every = λ g x y. (
      linked_map (λ c (i, st, (b, r)). (i, st, r)),
      relink (λ c (i, st, r). linked_map (λ d (k, at, (b, s)). (k, at, (b, laws.chain (grade k) (grade i) g s r))) (linked i c st)),
    );
    whole = λ x y. (
      linked_map (λ c (i, st, b). (i, st)),
      relink (λ c (i, st). linked_map (λ d (k, at, (b, s)). (k, at, b)) (linked i c st)),
    );
  }
    where
      linked : (i : ℕ) (c : Cable) → slice_get cs i ≡ Some c → Linked (KeptReaching over cs grade place n (grade i)) c.a c.b
      linked i c st = was.inner i c st (none i c (place_low cs i c st) st)

  module _ (f : Found G) (crosses : Crosses over cs grade ls (length cs) f) (ls' : List ℕ) (merged_at : Merged ls (label ls f.ends.a) (label ls f.ends.b) ls') where
    -- the cable that is kept
    abbrev e : Cable
    e = crosses.seen.cable

    e_laid : slice_get cs f.place ≡ Some e
    e_laid = crosses.seen.laid

    ea : e.a < 128
    ea = (lawful f.place e e_laid).0

    eb : e.b < 128
    eb = (lawful f.place e e_laid).1

    merged : Merged ls (label ls e.a) (label ls e.b) ls'
    merged = merged_ends ls ls' f.ends.a f.ends.b e crosses.seen.a_is crosses.seen.b_is merged_at

    fall : classes ls' < classes ls
    fall = classes_fall e.a e.b ea eb was.labelled crosses.parts merged

    module _ (place' : ℕ → ℕ) (last : place' n ≡ f.place) (others : (j : ℕ) → j < n → place' j ≡ place j) where
      before_more : (i : ℕ) → Before place n i → Before place' (n + 1) i
      before_more i (j, h, q) = (j, omega arith, others j h ∙ q)

      before_last : Before place' (n + 1) f.place
      before_last = (n, omega arith, last)

      last_is : (j : ℕ) → j < n + 1 → n ≤ j → place' j ≡ f.place
      last_is j h le = let q : j ≡ n = omega arith in ap place' q ∙ last

      before_only : (i : ℕ) → Before place' (n + 1) i → Before place n i ⊎ (i ≡ f.place)
      before_only i (j, h, q) = ⊎_elim (λ lt. inl (j, lt, sym (others j lt) ∙ q)) (λ le. inr (sym q ∙ last_is j h le)) (cases_lt j n)

      kept_only : (c : Cable) → Kept cs place' (n + 1) c → Kept cs place n c ⊎ (c ≡ e)
      kept_only c (i, st, b) = ⊎_elim
          (λ p. inl (i, st, p))
          (λ q. inr (one_place cs f.place c e (subst (λ k. slice_get cs k ≡ Some c) q st) e_laid))
          (before_only i b)

      now_labelled : Labelled ls' (Kept cs place' (n + 1))
      now_labelled = labelled_more e ea eb was.labelled (λ c (i, st, b). (i, st, before_more i b)) (f.place, e_laid, before_last) kept_only merged

      -- what did cross before: all that is kept reaches it
      reaches : (i k : ℕ) (c : Cable) → Before place n i ⊎ (i ≡ f.place) → slice_get cs k ≡ Some c → (Alike ls c → ⊥) → over (grade i) (grade k) ≡ true
      reaches i k c (inl (j, h, q)) st parted = subst (λ x. over (grade x) (grade k) ≡ true) q (was.outer j k c h st parted)
      reaches i k c (inr q) st parted =
          subst (λ g. over g (grade k) ≡ true) (crosses.seen.grade_is ∙ ap grade (sym q)) (crosses.best k c (place_low cs k c st) st parted)

      now_inner : (i : ℕ) (c : Cable) → slice_get cs i ≡ Some c → Alike ls' c → Linked (KeptReaching over cs grade place' (n + 1) (grade i)) c.a c.b
      now_inner i c st same =
          let r = lawful i c st in
          ⊎_elim
          (λ old. linked_map (λ d (k, at, (b, s)). (k, at, (before_more k b, s))) (was.inner i c st old))
          (λ parted. linked_map (λ d (k, at, b). (k, at, (b, reaches k i c (before_only k b) st parted))) (now_labelled.whole c.a c.b r.0 r.1 same))
          (cases_eq (label ls c.a) (label ls c.b))

      now_falling : (j k : ℕ) → j ≤ k → k < n + 1 → over (grade (place' j)) (grade (place' k)) ≡ true
      now_falling j k h l = ⊎_elim inside at_end (cases_lt k n)
        where
          inside : k < n → over (grade (place' j)) (grade (place' k)) ≡ true
          inside lt = subst₂ (λ x y. over (grade x) (grade y) ≡ true) (sym (others j (omega arith))) (sym (others k lt)) (was.falling j k h lt)

          at_end : n ≤ k → over (grade (place' j)) (grade (place' k)) ≡ true
          at_end le = subst (λ x. over (grade (place' j)) (grade x) ≡ true) (sym (last_is k l le)) (⊎_elim
              (λ lt. subst (λ x. over (grade x) (grade f.place) ≡ true) (sym (others j lt)) (was.outer j f.place e lt e_laid crosses.parts))
              (λ ge. subst (λ x. over (grade x) (grade f.place) ≡ true) (sym (last_is j (omega arith) ge)) (reach_self laws (grade f.place)))
              (cases_lt j n))

      kept_old : (k : ℕ) → k ≤ n → (c : Cable) → Kept cs place' k c → Kept cs place k c
      kept_old k h c (i, st, (j, l, q)) = (i, st, (j, l, sym (others j (omega arith)) ∙ q))

      now_fresh : (k : ℕ) (c : Cable) → k < n + 1 → slice_get cs (place' k) ≡ Some c → Linked (Kept cs place' k) c.a c.b → ⊥
      now_fresh k c h st links = ⊎_elim inside at_end (cases_lt k n)
        where
          inside : k < n → ⊥
          inside lt = was.fresh k c lt (subst (λ x. slice_get cs x ≡ Some c) (others k lt) st) (linked_map (kept_old k (omega arith)) links)

          at_end : n ≤ k → ⊥
          at_end le =
              let k_is : k ≡ n = omega arith in
              let c_is : c ≡ e = one_place cs f.place c e (subst (λ x. slice_get cs x ≡ Some c) (last_is k h le) st) e_laid in
              let old = subst (λ m. Linked (Kept cs place m) c.a c.b) k_is (linked_map (kept_old k (omega arith)) links) in
              crosses.parts (subst (λ (x : Cable). Alike ls x) c_is (linked_label was.labelled old))

      pub grown_more : Grown over cs grade place' (n + 1) ls'
      grown_more = record {
        labelled = now_labelled;
        laid = λ j h. ⊎_elim
            (λ lt. subst (λ x. x < length cs) (sym (others j lt)) (was.laid j lt))
            (λ le. subst (λ x. x < length cs) (sym (last_is j h le)) crosses.before)
            (cases_lt j n);
        inner = now_inner;
        outer = λ j i c h st parted. reaches (place' j) i c (before_only (place' j) (j, h, refl)) st
            (λ same. let r = lawful i c st in parted (merged_alike c merged r.0 r.1 same));
        falling = now_falling;
        fresh = now_fresh;
        few = omega (arith, was.few, fall);
      }

    -- there is room for one more
    pub grown_room : n < 127
    grown_room =
        let more = labelled_more {Q = λ c. Kept cs place n c ⊎ (c ≡ e)} e ea eb was.labelled (λ c p. inl p) (inr refl) (λ c q. q) merged in
        omega (arith, was.few, fall, classes_some more)
