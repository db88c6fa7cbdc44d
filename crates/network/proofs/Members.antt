-- Which devices a list names, and which sets contain it. Assumes nothing.
use Rattle.std.proofs.Common.{◌≡◌, ℕ, Bool, true, false, eqb, List, [], ◌∷◌, sym, refl, ap, ◌∙◌, ⊎_elim, arith}
use Rattle.std.proofs.lemmas.Bool.{false≢true, or_left, or_right, or_cases, eqb-true, eq-eqb}
use Rattle.network.specs.Cables.{LawfulCable}
use Rattle.network.specs.Lists.{member, Contains, ends}
use Rattle.network.specs.Marks.{OfDevices}
use Rattle.network.specs.declared.cable.Cable.{Cable}

pub here : (x : ℕ) (l : List ℕ) → member (x ∷ l) x ≡ true
here x l = or_left (eqb x x) (member l x) (eq-eqb x x refl)

pub there : (x y : ℕ) (l : List ℕ) → member l y ≡ true → member (x ∷ l) y ≡ true
there x y l i = or_right (eqb x y) (member l y) i

pub none_has : (S : ℕ → Bool) → Contains S []
none_has S d i = absurd (false≢true i)

pub more_has : (S : ℕ → Bool) (x : ℕ) (l : List ℕ) → S x ≡ true → Contains S l → Contains S (x ∷ l)
more_has S x l i has d m = ⊎_elim (λ e. ap S (sym (eqb-true x d e)) ∙ i) (λ r. has d r) (or_cases (eqb x d) (member l d) m)

pub one_has : (S : ℕ → Bool) (x : ℕ) → S x ≡ true → Contains S (x ∷ [])
one_has S x i = more_has S x [] i (none_has S)

pub two_has : (S : ℕ → Bool) (x y : ℕ) → S x ≡ true → S y ≡ true → Contains S (x ∷ y ∷ [])
two_has S x y i j = more_has S x (y ∷ []) i (one_has S y j)

pub only : (x y : ℕ) → member (x ∷ []) y ≡ true → x ≡ y
only x y m = ⊎_elim (λ e. eqb-true x y e) (λ f. absurd (false≢true f)) (or_cases (eqb x y) false m)

pub ends_devices : (c : Cable) → LawfulCable c → OfDevices (ends c)
ends_devices c ok d m = ⊎_elim
    (λ e. omega (arith, eqb-true c.a d e))
    (λ r. ⊎_elim (λ e. omega (arith, eqb-true c.b d e)) (λ f. absurd (false≢true f)) (or_cases (eqb c.b d) (member [] d) r))
    (or_cases (eqb c.a d) (member (c.b ∷ []) d) m)
