-- The cable at a place, and the best that crosses, place by place. Assumes nothing.
use Rattle.std.proofs.Common.{◌≡◌, ℕ, ◌+◌, ◌<◌, ◌≤◌, Bool, true, false, ◌||◌, eqb, List, length, Some, None, Option, MatchOption, sym, refl, ap, ◌∙◌, subst, ⊎_elim, arith}
use Rattle.std.specs.List.{slice_get}
use Rattle.std.proofs.lemmas.Option.{slice_get_past}
use Rattle.std.proofs.lemmas.Bool.{cases_eq, cases_lt, false≢true, eqb-false, or_parts}
use Rattle.network.specs.declared.cable.Cable.{Cable}
use Rattle.network.specs.Cables.{Lawful}
use Rattle.network.proofs.Places.{one_place, place_low}
use Rattle.forest.specs.declared.crossing.Found.{Found}
use Rattle.forest.specs.Order.{Laws}
use Rattle.forest.specs.Places.{both_ends, ends_at}
use Rattle.forest.specs.Labels.{Alike}
use Rattle.cuts.specs.Links.{label}
use Rattle.forest.specs.Crossings.{Seen, Crosses, Best, Passed, Improves, Next, reached_by, beyond}
use Rattle.forest.proofs.Orders.{reach_self, reach_back}

-- the ends of a lawful cable are devices
pub ends_low : (cs : List Cable) (i a b : ℕ) → Lawful cs → Some (a, b) ≡ ends_at cs i → (a < 128) × (b < 128)
ends_low cs i a b lawful e = at_place (slice_get cs i) refl e
  where
    at_place : (o : Option Cable) → slice_get cs i ≡ o → Some (a, b) ≡ both_ends o → (a < 128) × (b < 128)
    at_place None st e = let z : ◌≡◌ {A = ℕ} 0 1 = cc in absurd (omega arith)
    at_place (Some c) st e =
        let l = lawful i c st in
        let same : (a, b) ≡ (c.a, c.b) = cc in
        let a_is : a ≡ c.a = ap (λ (p : ℕ × ℕ). p.0) same in
        let b_is : b ≡ c.b = ap (λ (p : ℕ × ℕ). p.1) same in
        (rw a_is l.0, rw b_is l.1)

-- no cable stands past the last
pub none_past : {X : Type 0} (xs : List X) (n : ℕ) (x : X) → length xs ≤ n → slice_get xs n ≡ Some x → ⊥
none_past xs n x h st = let past = slice_get_past xs n h in let z : ◌≡◌ {A = ℕ} 0 1 = cc in omega arith

-- what was seen at a place is the cable that stands there
pub seen_is : {G : Type 0} {cs : List Cable} {grade : ℕ → G} (f : Found G) (s : Seen cs grade f) (i : ℕ) (c : Cable) → f.place ≡ i → slice_get cs i ≡ Some c → c ≡ s.cable
seen_is {cs = cs} f s i c e st = one_place cs i c s.cable st (subst (λ k. slice_get cs k ≡ Some s.cable) e s.laid)

module _ {G : Type 0} {over : G → G → Bool} {cs : List Cable} {grade : ℕ → G} (ls : List ℕ) (best : Option (Found G)) (n : ℕ) where
  -- the test of the code: the labels are one, or the best so far reaches the cable at n
  module _ (f : Found G) (here : f.place ≡ n) (s : Seen cs grade f) (on : Bool) (on_is : on ≡ reached_by over best f.grade) where
    pub improves : (eqb (label ls f.ends.a) (label ls f.ends.b) || on) ≡ false → Improves over cs grade ls best n f
    improves t =
        let p = or_parts (eqb (label ls f.ends.a) (label ls f.ends.b)) on t in
        record {
          here = here;
          seen = s;
          parts = λ same. eqb-false (label ls f.ends.a) (label ls f.ends.b) p.0 (ap (label ls) s.a_is ∙ same ∙ ap (label ls) (sym s.b_is));
          better = sym on_is ∙ p.1;
        }

module _ {G : Type 0} {over : G → G → Bool} (laws : Laws over) (cs : List Cable) (grade : ℕ → G) (ls : List ℕ) (n : ℕ) where
  -- what was passed does not change the best so far
  best_stays : (m : ℕ) → n ≤ m → (best : Option (Found G)) → Best over cs grade ls n best → ((i : ℕ) → n ≤ i → i < m → Passed over cs grade ls best i) → Best over cs grade ls m best
  best_stays m h None was skipped = λ i c lt st. ⊎_elim
      (λ low. was i c low st)
      (λ high. ⊎_elim (λ same. same) (λ parted. absurd (false≢true ((skipped i high lt).reached c st parted))) (cases_eq (label ls c.a) (label ls c.b)))
      (cases_lt i n)
  best_stays m h (Some f) was skipped = record {
    seen = was.seen;
    before = omega (arith, was.before);
    parts = was.parts;
    best = λ i c lt st parted. ⊎_elim (λ low. was.best i c low st parted) (λ high. (skipped i high lt).reached c st parted) (cases_lt i n);
  }

  -- what the best so far reaches, a cable that it does not reach reaches
  reaches_before : (g : G) (best : Option (Found G)) → reached_by over best g ≡ false → Best over cs grade ls n best
      → (i : ℕ) (c : Cable) → i < n → slice_get cs i ≡ Some c → (Alike ls c → ⊥) → over g (grade i) ≡ true
  reaches_before g None off was i c lt st parted = absurd (parted (was i c lt st))
  reaches_before g (Some d) off was i c lt st parted = laws.chain g d.grade (grade i) (reach_back laws d.grade g (sym off)) (was.best i c lt st parted)

  best_takes : (best : Option (Found G)) (f : Found G) → Improves over cs grade ls best n f → Best over cs grade ls n best → Crosses over cs grade ls (n + 1) f
  best_takes best f better was = record {
    seen = better.seen;
    before = omega (arith, better.here);
    parts = better.parts;
    best = λ i c lt st parted. ⊎_elim
        (λ low. reaches_before f.grade best better.better was i c low st parted)
        (λ high. let i_is : f.place ≡ i = omega (arith, better.here) in subst (λ g. over f.grade g ≡ true) (better.seen.grade_is ∙ ap grade i_is) (reach_self laws f.grade))
        (cases_lt i n);
  }

-- the place past the best so far is no further than the end
pub beyond_low : {G : Type 0} (over : G → G → Bool) (cs : List Cable) (grade : ℕ → G) (ls : List ℕ) (best : Option (Found G)) → Best over cs grade ls (beyond best) best → beyond best ≤ length cs
beyond_low over cs grade ls None was = omega arith
beyond_low over cs grade ls (Some f) was = omega (arith, place_low cs f.place was.seen.cable was.seen.laid)

-- the first place past the best so far that improves on it
pub next_found : {G : Type 0} {over : G → G → Bool} → Laws over → (cs : List Cable) (grade : ℕ → G) (ls : List ℕ) (best r : Option (Found G)) → Best over cs grade ls (beyond best) best → beyond best ≤ length cs
    → MatchOption r ((i : ℕ) → beyond best ≤ i → i < length cs → Passed over cs grade ls best i)
    (λ f. (n : ℕ) × (beyond best ≤ n) × Improves over cs grade ls best n f × ((i : ℕ) → beyond best ≤ i → i < n → Passed over cs grade ls best i))
    → Next over cs grade ls best r
next_found laws cs grade ls best None was low skipped = best_stays laws cs grade ls (beyond best) (length cs) low best was skipped
next_found {over = over} laws cs grade ls best (Some f) was low (n, h, better, skipped) =
    let crosses = best_takes laws cs grade ls n best f better (best_stays laws cs grade ls (beyond best) n h best was skipped) in
    (subst (λ m. Crosses over cs grade ls (m + 1) f) (sym better.here) crosses, omega (arith, better.here))
