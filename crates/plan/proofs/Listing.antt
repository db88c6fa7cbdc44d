-- The devices that a list names, taken in one by one, and bytes above 127. Assumes nothing.
use Rattle.std.proofs.Common.{◌≡◌, ℕ, zero, suc, ◌+◌, ◌<◌, ◌≤◌, Bool, true, false, ◌&&◌, ◌||◌, eqb, ltb, List, [], ◌∷◌, length, get_or, drop, Result, sym, refl, ap, ◌∙◌, ap₂, ⊎_elim, add-one, arith, drop-cons}
use Rattle.std.proofs.lemmas.List.{drop_all}
use Rattle.std.proofs.lemmas.Bool.{lt-ltb, le-ltb, ltb-false, ne_eqb, eq-eqb, or_left, or_parts, cases_eq}
use Rattle.network.specs.Cables.{above}
use Rattle.network.specs.Lists.{member}
use Rattle.network.specs.Refusals.{refuse}
use Rattle.network.specs.declared.refusal.Refusal.{Refusal}
use Rattle.network.specs.declared.refusal.Refusal.TheVariants.{ListEmpty, ListTooLong, DeviceOutOfRange}
use Rattle.cuts.specs.Members.{set_of}
use Rattle.cuts.specs.declared.devices.Devices.{Devices}
use Rattle.plan.specs.Tests.{outside, list_then}
use Rattle.cutsheets.specs.Listing.{Names}

-- the entries before i are in the set, and the rest is still to be taken in
abbrev pub Taken : Devices → List ℕ → ℕ → Type 0
Taken s l i = (d : ℕ) → member l d ≡ (set_of s d || member (drop i l) d)

pub taken_none : (s : Devices) (l : List ℕ) → ((d : ℕ) → set_of s d ≡ false) → Taken s l 0
taken_none s l off d = ap (λ b. b || member l d) (sym (off d))

shuffled : (x y z : Bool) → (x || (y || z)) ≡ ((x || y) || z)
shuffled true y z = refl
shuffled false y z = refl

flipped : (x d : ℕ) → above x ≡ false → eqb x d ≡ (eqb d x && ltb x 128)
flipped x d low = ⊎_elim
    (λ e. eq-eqb x d e ∙ sym (ap₂ ◌&&◌ (eq-eqb d x (sym e)) (lt-ltb x 128 (omega (arith, ltb-false 127 x low)))))
    (λ n. ne_eqb x d n ∙ sym (ap (λ b. b && ltb x 128) (ne_eqb d x (λ e. n (sym e)))))
    (cases_eq x d)

module _ (l : List ℕ) (i : ℕ) (within : i < length l) where
  pub taken_more : (s s' : Devices) → above (get_or l i 0) ≡ false → ((d : ℕ) → set_of s' d ≡ (set_of s d || (eqb d (get_or l i 0) && ltb (get_or l i 0) 128)))
      → Taken s l i → Taken s' l (i + 1)
  taken_more s s' low added taken d =
      let x = get_or l i 0 in
      let m = member (drop (suc i) l) d in
      taken d
      ∙ ap (λ r. set_of s d || member r d) (drop-cons l i 0 within)
      ∙ ap (λ b. set_of s d || (b || m)) (flipped x d low)
      ∙ shuffled (set_of s d) (eqb d x && ltb x 128) m
      ∙ ap₂ ◌||◌ (sym (added d)) (ap (λ j. member (drop j l) d) (sym (add-one i)))

  pub outside_here : above (get_or l i 0) ≡ true → outside l ≡ outside (drop i l) → outside l ≡ true
  outside_here high same = same ∙ ap outside (drop-cons l i 0 within) ∙ or_left (above (get_or l i 0)) (outside (drop (suc i) l)) high

  pub outside_more : above (get_or l i 0) ≡ false → outside l ≡ outside (drop i l) → outside l ≡ outside (drop (i + 1) l)
  outside_more low same = same ∙ ap outside (drop-cons l i 0 within) ∙ ap (λ b. b || outside (drop (suc i) l)) low ∙ ap (λ j. outside (drop j l)) (sym (add-one i))

pub in_range : (l : List ℕ) (i : ℕ) → i < length l → outside l ≡ false → above (get_or l i 0) ≡ false
in_range [] i h off = absurd (omega arith)
in_range (x ∷ l) zero h off = (or_parts (above x) (outside l) off).0
in_range (x ∷ l) (suc i) h off = in_range l i (omega arith) (or_parts (above x) (outside l) off).1

last : (x : Bool) → (x || false) ≡ x
last true = refl
last false = refl

pub taken_all : (s : Devices) (l : List ℕ) (i : ℕ) → length l ≤ i → Taken s l i → Names l (set_of s)
taken_all s l i h taken d = sym (taken d ∙ ap (λ r. set_of s d || member r d) (drop_all i l h) ∙ last (set_of s d))

pub outside_none : (l : List ℕ) (i : ℕ) → length l ≤ i → outside l ≡ outside (drop i l) → outside l ≡ false
outside_none l i h same = same ∙ ap outside (drop_all i l h)

-- a list of fit length is tested for its devices alone
pub lengths_fit : {A : Type 0} (l : List ℕ) (x : Result A Refusal) → (length l ≡ 0 → ⊥) → length l ≤ 128 → list_then l x ≡ refuse DeviceOutOfRange (outside l) x
lengths_fit l x some few =
    ap (λ b. refuse ListEmpty b (refuse ListTooLong (ltb 128 (length l)) (refuse DeviceOutOfRange (outside l) x))) (ne_eqb (length l) 0 some)
    ∙ ap (λ b. refuse ListTooLong b (refuse DeviceOutOfRange (outside l) x)) (le-ltb 128 (length l) few)
