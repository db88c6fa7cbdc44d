-- A tour's cables: finding a tag, what a lift removes, and the tests of a lay one after another. Assumes nothing.
use Rattle.std.proofs.Common.{◌≡◌, ℕ, zero, suc, ◌+◌, ◌<◌, ◌≤◌, Bool, true, false, cond, not, ◌||◌, eqb, leb, ltb, List, [], ◌∷◌, ◌++◌, length, is_some, Some, None, Ok, Err, sym, refl, ap, ◌∙◌, subst, arith}
use borrow.Author.Tests.{lt-leb}
use Rattle.std.proofs.lemmas.Bool.{ltb-true, ltb-false}
use Rattle.std.proofs.lemmas.List.{map_push}
use Rattle.std.specs.List.{remove, position_or_len}
use Rattle.network.proofs.ListPlaces.{lawful_push}
use Rattle.network.specs.Cables.{above, fit_run, LawfulCable, Lawful}
use Rattle.network.specs.Refusals.{refuse, cable_check}
use Rattle.network.specs.declared.cable.Cable.{Cable}
use Rattle.network.specs.declared.cable.TourCable.{TourCable}
use Rattle.network.specs.declared.refusal.Refusal.{Refusal}
use Rattle.network.specs.declared.refusal.Refusal.TheVariants.{DeviceOutOfRange, SameEnds, RunOutOfRange, TagTaken, TourFull}
use Rattle.plan.specs.Tally.{tour_cables, place, lay_answer, lift_after}

abbrev tagged : ℕ → TourCable → Bool
tagged tag x = eqb x.tag tag

-- where the cable with the tag stands, or the length
abbrev pub at : List TourCable → ℕ → ℕ
at t tag = position_or_len (tagged tag) t

-- a place that is found
pub found : (t : List TourCable) (tag i : ℕ) → place t tag ≡ Some i → (at t tag ≡ i) × (i < length t)
found t tag i e = go (ltb (at t tag) (length t)) refl e
  where
    go : (b : Bool) → ltb (at t tag) (length t) ≡ b → cond b (Some (at t tag)) None ≡ Some i → (at t tag ≡ i) × (i < length t)
    go true h e = let q : at t tag ≡ i = cc in (q, omega (arith, ltb-true (at t tag) (length t) h))
    go false h e = let z : ◌≡◌ {A = ℕ} 0 1 = cc in absurd (omega arith)

pub missing : (t : List TourCable) (tag : ℕ) → place t tag ≡ None → length t ≤ at t tag
missing t tag e = go (ltb (at t tag) (length t)) refl e
  where
    go : (b : Bool) → ltb (at t tag) (length t) ≡ b → cond b (Some (at t tag)) None ≡ None → length t ≤ at t tag
    go true h e = let z : ◌≡◌ {A = ℕ} 0 1 = cc in absurd (omega arith)
    go false h e = omega (arith, ltb-false (at t tag) (length t) h)

remove_past : (t : List TourCable) (i : ℕ) → length t ≤ i → remove t i ≡ t
remove_past [] zero h = refl
remove_past [] (suc i) h = refl
remove_past (x ∷ xs) zero h = absurd (omega arith)
remove_past (x ∷ xs) (suc i) h = ap (λ l. x ∷ l) (remove_past xs i (omega arith))

-- a lift removes what stands there
pub lift_removes : (t : List TourCable) (tag : ℕ) → lift_after t tag ≡ remove t (at t tag)
lift_removes [] tag = refl
lift_removes (x ∷ xs) tag = go (tagged tag x) (lift_removes xs tag)
  where
    go : (b : Bool) → lift_after xs tag ≡ remove xs (at xs tag) → cond b xs (x ∷ lift_after xs tag) ≡ remove (x ∷ xs) (cond (not b) (1 + at xs tag) 0)
    go true ih = refl
    go false ih = let one : suc (at xs tag) ≡ 1 + at xs tag = omega arith in ap (λ l. x ∷ l) ih ∙ ap (remove (x ∷ xs)) one

pub lift_some : (t : List TourCable) (tag i : ℕ) → place t tag ≡ Some i → lift_after t tag ≡ remove t i
lift_some t tag i e = lift_removes t tag ∙ ap (remove t) (found t tag i e).0

pub lift_none : (t : List TourCable) (tag : ℕ) → place t tag ≡ None → lift_after t tag ≡ t
lift_none t tag e = lift_removes t tag ∙ remove_past t (at t tag) (missing t tag e)

-- a lay of a lawful cable, with a free tag, in a tour that is not full
pub lay_free : (t : List TourCable) (tag : ℕ) (c : Cable) (u : Unit {0}) → Ok u ≡ cable_check c → place t tag ≡ None → length t < 256
    → lay_answer t tag c ≡ Ok (length t + 1)
lay_free t tag c u p q h =
    go (above c.a || above c.b) (eqb c.a c.b) (not (fit_run c.run)) p
    ∙ ap (λ o. refuse TagTaken (is_some o) (refuse TourFull (leb 256 (length t)) (Ok (length t + 1)))) q
    ∙ ap (λ b. refuse TourFull b (Ok (length t + 1))) (lt-leb 256 (length t) h)
  where
    never : {A : Type 0} (e : Refusal) (v : Unit {0}) → Ok v ≡ Err e → A
    never e v p = let z : ◌≡◌ {A = ℕ} 0 1 = cc in absurd (omega arith)

    go : (x y z : Bool) → Ok u ≡ refuse DeviceOutOfRange x (refuse SameEnds y (refuse RunOutOfRange z (Ok tt)))
        → refuse DeviceOutOfRange x (refuse SameEnds y (refuse RunOutOfRange z (refuse TagTaken (is_some (place t tag)) (refuse TourFull (leb 256 (length t)) (Ok (length t + 1))))))
        ≡ refuse TagTaken (is_some (place t tag)) (refuse TourFull (leb 256 (length t)) (Ok (length t + 1)))
    go true y z p = never DeviceOutOfRange u p
    go false true z p = never SameEnds u p
    go false false true p = never RunOutOfRange u p
    go false false false p = refl

-- what is left of lawful cables is lawful
pub lawful_removed : (t : List TourCable) (i : ℕ) → Lawful (tour_cables t) → Lawful (tour_cables (remove t i))
lawful_removed [] zero h k c e = h k c e
lawful_removed [] (suc i) h k c e = h k c e
lawful_removed (x ∷ xs) zero h k c e = h (suc k) c e
lawful_removed (x ∷ xs) (suc i) h zero c e = h zero c e
lawful_removed (x ∷ xs) (suc i) h (suc k) c e = lawful_removed xs i (λ j d. h (suc j) d) k c e

-- and so are they with one more
pub lawful_laid : (t : List TourCable) (x : TourCable) → Lawful (tour_cables t) → LawfulCable x.cable → Lawful (tour_cables (t ++ x ∷ []))
lawful_laid t x lawful one = subst Lawful (sym (map_push (λ y. y.cable) t x)) (lawful_push (tour_cables t) x.cable lawful one)
