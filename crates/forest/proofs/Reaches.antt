-- The labels of what cables of a grade link, place by place, and the devices with one of them. Assumes nothing.
use Rattle.std.proofs.Common.{◌≡◌, ℕ, ◌+◌, ◌<◌, ◌≤◌, Bool, true, false, eqb, ◌⊎◌, ◌↔◌, List, length, Some, sym, ap, ◌∙◌, subst, inl, inr, ⊎_elim, arith}
use Rattle.std.specs.List.{slice_get}
use Rattle.std.proofs.lemmas.Bool.{both_ways, cases_lt, eq-eqb, eqb-true}
use Rattle.network.specs.declared.cable.Cable.{Cable}
use Rattle.network.specs.Cables.{Lawful}
use Rattle.network.specs.Chains.{Linked, stay, hop}
use Rattle.network.proofs.Places.{place_low}
use Rattle.forest.specs.declared.crossing.Found.{Found}
use Rattle.forest.specs.Places.{Reaching}
use Rattle.forest.specs.Labels.{Merged, Labelled}
use Rattle.cuts.specs.Links.{label}
use Rattle.forest.specs.Crossings.{Seen}
use Rattle.forest.specs.Forests.{ReachingUpTo}
use Rattle.forest.proofs.Merges.{merged_ends, labelled_more, labelled_none, labelled_same, linked_label}
use Rattle.forest.proofs.Crossings.{none_past, seen_is}

module _ {G : Type 0} (over : G → G → Bool) (cs : List Cable) (grade : ℕ → G) (floor : G) where
  pub taken_none : (ls : List ℕ) → length ls ≡ 128 → ((d : ℕ) → d < 128 → label ls d ≡ d) → Labelled ls (ReachingUpTo over cs grade floor 0)
  taken_none ls size own = labelled_none size own (λ c p. omega (arith, p.2.0))

  pub taken_all : (ls : List ℕ) (n : ℕ) → length cs ≤ n → Labelled ls (ReachingUpTo over cs grade floor n) → Labelled ls (Reaching over cs grade floor)
  taken_all ls n h was = labelled_same (λ c (i, st, (l, r)). (i, st, r)) (λ c (i, st, r). (i, st, (omega (arith, place_low cs i c st), r))) was

  module _ (ls : List ℕ) (n : ℕ) (was : Labelled ls (ReachingUpTo over cs grade floor n)) where
    more : (c : Cable) → ReachingUpTo over cs grade floor n c → ReachingUpTo over cs grade floor (n + 1) c
    more c (i, st, (l, r)) = (i, st, (omega arith, r))

    -- nothing at n reaches the floor
    pub taken_same : ((c : Cable) → slice_get cs n ≡ Some c → over (grade n) floor ≡ true → ⊥) → Labelled ls (ReachingUpTo over cs grade floor (n + 1))
    taken_same none = labelled_same more fewer was
      where
        fewer : (c : Cable) → ReachingUpTo over cs grade floor (n + 1) c → ReachingUpTo over cs grade floor n c
        fewer c (i, st, (l, r)) = ⊎_elim
            (λ lt. (i, st, (lt, r)))
            (λ le. let i_is : i ≡ n = omega arith in absurd (none c (subst (λ k. slice_get cs k ≡ Some c) i_is st) (subst (λ k. over (grade k) floor ≡ true) i_is r)))
            (cases_lt i n)

    pub taken_past : length cs ≤ n → Labelled ls (ReachingUpTo over cs grade floor (n + 1))
    taken_past h = taken_same (λ c st r. none_past cs n c h st)

    module _ (f : Found G) (here : f.place ≡ n) (s : Seen cs grade f) where
      grade_here : f.grade ≡ grade n
      grade_here = s.grade_is ∙ ap grade here

      pub taken_poor : false ≡ over f.grade floor → Labelled ls (ReachingUpTo over cs grade floor (n + 1))
      taken_poor off = taken_same (λ c st r. both_ways (over f.grade floor) (sym off) (subst (λ g. over g floor ≡ true) (sym grade_here) r))

      -- the cable at n reaches the floor, and its ends are merged
      pub taken_more : Lawful cs → true ≡ over f.grade floor → (ls' : List ℕ) → Merged ls (label ls f.ends.a) (label ls f.ends.b) ls' → Labelled ls' (ReachingUpTo over cs grade floor (n + 1))
      taken_more lawful on ls' merged =
          let l = lawful f.place s.cable s.laid in
          labelled_more s.cable l.0 l.1 was more
          (f.place, s.laid, (omega arith, subst (λ g. over g floor ≡ true) s.grade_is (sym on)))
          only
          (merged_ends ls ls' f.ends.a f.ends.b s.cable s.a_is s.b_is merged)
        where
          only : (c : Cable) → ReachingUpTo over cs grade floor (n + 1) c → ReachingUpTo over cs grade floor n c ⊎ (c ≡ s.cable)
          only c (i, st, (l, r)) = ⊎_elim
              (λ lt. inl (i, st, (lt, r)))
              (λ le. let i_is : n ≡ i = omega arith in inr (seen_is f s i c (here ∙ i_is) st))
              (cases_lt i n)

-- from what is no device no chain leads to a device
pub linked_low : {P : Cable → Type 0} → ((c : Cable) → P c → (c.a < 128) × (c.b < 128)) → {x y : ℕ} → Linked P x y → y < 128 → x < 128
linked_low ranged stay h = h
linked_low ranged (hop c p (inl (f, g)) r) h = subst (λ d. d < 128) f (ranged c p).0
linked_low ranged (hop c p (inr (f, g)) r) h = subst (λ d. d < 128) g (ranged c p).1

pub reaching_ranged : {G : Type 0} (over : G → G → Bool) (cs : List Cable) (grade : ℕ → G) (floor : G) → Lawful cs → (c : Cable) → Reaching over cs grade floor c → (c.a < 128) × (c.b < 128)
reaching_ranged over cs grade floor lawful c (i, st, r) = let l = lawful i c st in (l.0, l.1)

-- a device has the label of `from` exactly when it is linked to it
pub labelled_linked : {P : Cable → Type 0} {ls : List ℕ} → Labelled ls P → (from d : ℕ) → from < 128 → d < 128 → (b : Bool) → b ≡ eqb (label ls d) (label ls from) → (b ≡ true) ↔ Linked P from d
labelled_linked {ls = ls} was from d hf hd b is = (
  (λ on. was.whole from d hf hd (sym (eqb-true (label ls d) (label ls from) (sym is ∙ on)))),
  (λ links. is ∙ eq-eqb (label ls d) (label ls from) (sym (linked_label was links))),
)

pub unlinked : {P : Cable → Type 0} → ((c : Cable) → P c → (c.a < 128) × (c.b < 128)) → (from d : ℕ) → 128 ≤ from → d < 128 → (b : Bool) → b ≡ false → (b ≡ true) ↔ Linked P from d
unlinked ranged from d high low b off = ((λ on. absurd (both_ways b off on)), (λ links. absurd (omega (arith, linked_low ranged links low))))
