-- The forest merged best first, until a set of devices has one label: the poorest cable that the set needs. Assumes nothing.
use Rattle.std.proofs.Common.{◌≡◌, ℕ, ◌+◌, ◌<◌, ◌≤◌, Bool, true, false, ◌⊎◌, List, length, Some, None, Option, sym, refl, ap, ◌∙◌, subst₂, inl, inr, ⊎_elim, arith}
use Rattle.std.proofs.lemmas.Bool.{both_ways, cases_Bool, cases_lt}
use Rattle.network.specs.declared.cable.Cable.{Cable}
use Rattle.network.specs.Cables.{Lawful}
use Rattle.network.specs.Sets.{DeviceSet}
use Rattle.network.specs.Chains.{Join}
use Rattle.network.proofs.Links.{linked_map}
use Rattle.forest.specs.declared.crossing.Found.{Found}
use Rattle.forest.specs.Order.{Laws}
use Rattle.forest.specs.Places.{Laid, Reaching}
use Rattle.forest.specs.Labels.{Merged, Labelled, OneLabel}
use Rattle.cuts.specs.Links.{label}
use Rattle.forest.specs.Crossings.{Seen}
use Rattle.forest.specs.Forests.{Kept, KeptReaching, Spans}
use Rattle.forest.specs.Poorest.{Poorest}
use Rattle.forest.proofs.Relinks.{linked_keeps}
use Rattle.forest.proofs.Merges.{merged_ends, labelled_more, labelled_none, linked_label}
use Rattle.forest.proofs.Crossings.{seen_is}

-- what holds before the k-th kept cable is merged
pub record Climbed (cs : List Cable) (place : ℕ → ℕ) (D : ℕ → Bool) (k : ℕ) (ls : List ℕ) : Type 0 where
  pub labelled : Labelled ls (Kept cs place k)
  pub apart : Join (Kept cs place k) D → ⊥

pub climbed_none : {cs : List Cable} {place : ℕ → ℕ} {D : ℕ → Bool} {ls : List ℕ} → DeviceSet D → length ls ≡ 128 → ((d : ℕ) → d < 128 → label ls d ≡ d) → Climbed cs place D 0 ls
climbed_none {cs} {place} set size own = record {
  labelled = labelled_none size own none;
  apart = λ links. set.apart (linked_keeps (λ x. x) (λ c p. absurd (none c p)) (links set.one set.other set.one_in set.other_in));
}
  where
    none : (c : Cable) → Kept cs place 0 c → ⊥
    none c p = omega (arith, p.2.1)

module _ {G : Type 0} {over : G → G → Bool} {cs : List Cable} {grade : ℕ → G} {place : ℕ → ℕ} {n : ℕ} {D : ℕ → Bool} {k : ℕ} {ls : List ℕ}
    (laws : Laws over) (lawful : Lawful cs) (spans : Spans over cs grade place n) (set : DeviceSet D) (was : Climbed cs place D k ls) where
  -- all is merged, and D is still apart
  pub climbed_all : n ≤ k → Poorest over cs grade D None
  climbed_all h = λ links. was.apart (λ x y ix iy. linked_map (λ c (i, st, (j, l, q)). (i, st, (j, omega arith, q))) ((spans.whole x y).1 (links x y ix iy)))

  module _ (h : k < n) (f : Found G) (here : f.place ≡ place k) (s : Seen cs grade f) (ls' : List ℕ) (merged : Merged ls (label ls f.ends.a) (label ls f.ends.b) ls') where
    here_only : (c : Cable) → Kept cs place (k + 1) c → Kept cs place k c ⊎ (c ≡ s.cable)
    here_only c (i, st, (j, l, q)) = ⊎_elim
        (λ lt. inl (i, st, (j, lt, q)))
        (λ le. let j_is : k ≡ j = omega arith in inr (seen_is f s i c (here ∙ ap place j_is ∙ q) st))
        (cases_lt j k)

    now_labelled : Labelled ls' (Kept cs place (k + 1))
    now_labelled =
        let l = lawful f.place s.cable s.laid in
        labelled_more s.cable l.0 l.1 was.labelled
        (λ c (i, st, (j, l, q)). (i, st, (j, omega arith, q)))
        (f.place, s.laid, (k, omega arith, sym here))
        here_only
        (merged_ends ls ls' f.ends.a f.ends.b s.cable s.a_is s.b_is merged)

    pub climbed_more : (OneLabel ls' D → ⊥) → Climbed cs place D (k + 1) ls'
    climbed_more apart = record {
      labelled = now_labelled;
      apart = λ links. apart (λ x y ix iy. linked_label now_labelled (links x y ix iy));
    }

    grade_here : grade (place k) ≡ f.grade
    grade_here = sym (s.grade_is ∙ ap grade here)

    -- what was merged is as good as the cable here
    as_good : (c : Cable) → Kept cs place (k + 1) c → Reaching over cs grade f.grade c
    as_good c (i, st, (j, l, q)) = (i, st, subst₂ (λ x g. over (grade x) g ≡ true) q grade_here (spans.falling j k (omega arith) h))

    -- where the cable here does not reach g, what reaches g was merged before it
    earlier : (g : G) → over f.grade g ≡ false → (c : Cable) → KeptReaching over cs grade place n g c → Kept cs place k c
    earlier g off c (i, st, ((j, l, q), r)) = ⊎_elim
        (λ lt. (i, st, (j, lt, q)))
        (λ le. absurd (both_ways (over f.grade g) off (laws.chain f.grade (grade i) g (subst₂ (λ a x. over a (grade x) ≡ true) grade_here q (spans.falling k j le l)) r)))
        (cases_lt j k)

    pub climbed_found : OneLabel ls' D → Poorest over cs grade D (Some f.grade)
    climbed_found one = (
      (λ x y ix iy. linked_map as_good (now_labelled.whole x y (set.below x ix) (set.below y iy) (one x y ix iy))),
      (λ g links. ⊎_elim
          (λ on. on)
          (λ off. absurd (was.apart (λ x y ix iy. linked_map (earlier g off) ((spans.every g x y).1 (links x y ix iy)))))
          (cases_Bool (over f.grade g))),
    )

reaching_laid : {G : Type 0} (over : G → G → Bool) (cs : List Cable) (grade : ℕ → G) (g : G) (D : ℕ → Bool) → Join (Reaching over cs grade g) D → Join (Laid cs) D
reaching_laid over cs grade g D links x y ix iy = linked_map (λ c (i, st, r). (i, st)) (links x y ix iy)

-- there is one answer
pub poorest_unique : {G : Type 0} {over : G → G → Bool} → Laws over → (cs : List Cable) (grade : ℕ → G) (D : ℕ → Bool) (r s : Option G) → Poorest over cs grade D r → Poorest over cs grade D s → r ≡ s
poorest_unique laws cs grade D None None p q = refl
poorest_unique {over = over} laws cs grade D None (Some h) p q = absurd (p (reaching_laid over cs grade h D q.0))
poorest_unique {over = over} laws cs grade D (Some g) None p q = absurd (q (reaching_laid over cs grade g D p.0))
poorest_unique {G} laws cs grade D (Some g) (Some h) p q = ap {B = Option G} Some (laws.same g h (p.1 h q.0) (q.1 g p.0))
