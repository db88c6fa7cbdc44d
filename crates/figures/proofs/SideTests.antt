-- A set of few devices is tied by k if a computed test over all its sides says so: of a side, only what it is on the members matters.
-- Assumes nothing.
--   decided x b side     the side `side`, but b at x
--   each_side p xs side  p holds of every side that is `side` except at devices of xs
--   parted xs side       the side has one of the devices xs on it, and one off it
--   tied_test cs g k     every side that parts the devices g has k crossings or more
use Rattle.std.proofs.Common.{◌≡◌, ℕ, ◌≤◌, Bool, true, false, cond, not, ◌&&◌, ◌||◌, eqb, leb, ◌⊎◌, List, [], ◌∷◌, sym, refl, ap, ◌∙◌, subst, inl, inr, ⊎_elim, arith}
use Rattle.std.proofs.lemmas.Bool.{false≢true, and_parts, and_from, or_left, or_right, or_cases, or_parts, not-true, not_from_false, eqb-true, eq-eqb, leb-true, cases_Bool}
use Rattle.network.specs.Sets.{crosses, crossings, Tied}
use Rattle.network.specs.Lists.{member}
use Rattle.network.specs.Figures.{any}
use Rattle.network.specs.declared.cable.Cable.{Cable}
use Rattle.network.proofs.Counts.{count_le}
use Rattle.network.proofs.Sides.{crosses_belongs, crosses_parts, crosses_from}

abbrev pub decided : ℕ → Bool → (ℕ → Bool) → ℕ → Bool
decided x b side d = cond (eqb x d) b (side d)

abbrev pub each_side : ((ℕ → Bool) → Bool) → List ℕ → (ℕ → Bool) → Bool
each_side p [] side = p side
each_side p (x ∷ xs) side = each_side p xs (decided x true side) && each_side p xs (decided x false side)

abbrev pub parted : List ℕ → (ℕ → Bool) → Bool
parted xs side = any side xs && any (λ d. not (side d)) xs

abbrev pub tied_test : List Cable → List ℕ → ℕ → Bool
tied_test cs g k = each_side (λ side. not (parted g side) || leb k (crossings cs (member g) side)) g (λ d. false)

-- a side that passed the test and agrees with another on the devices xs, and with where it began elsewhere
record Alike (p : (ℕ → Bool) → Bool) (xs : List ℕ) (start side : ℕ → Bool) : Type 0 where
  at : ℕ → Bool
  passes : p at ≡ true
  same : (d : ℕ) → member xs d ≡ true → at d ≡ side d
  rest : (d : ℕ) → member xs d ≡ false → at d ≡ start d

decided_at : (x : ℕ) (b : Bool) (side : ℕ → Bool) → decided x b side x ≡ b
decided_at x b side = ap (λ t. cond t b (side x)) (eq-eqb x x refl)

decided_else : (x d : ℕ) (b : Bool) (side : ℕ → Bool) → eqb x d ≡ false → decided x b side d ≡ side d
decided_else x d b side e = ap (λ t. cond t b (side d)) e

each_side_half : (p : (ℕ → Bool) → Bool) (x : ℕ) (xs : List ℕ) (start : ℕ → Bool) → each_side p (x ∷ xs) start ≡ true → (b : Bool) → each_side p xs (decided x b start) ≡ true
each_side_half p x xs start e true = (and_parts (each_side p xs (decided x true start)) (each_side p xs (decided x false start)) e).0
each_side_half p x xs start e false = (and_parts (each_side p xs (decided x true start)) (each_side p xs (decided x false start)) e).1

-- one device more: where the side is decided as the other has it
alike_more : (p : (ℕ → Bool) → Bool) (x : ℕ) (xs : List ℕ) (start side : ℕ → Bool) → Alike p xs (decided x (side x) start) side → Alike p (x ∷ xs) start side
alike_more p x xs start side more = record { at = more.at; passes = more.passes; same = same; rest = rest }
  where
    front : (d : ℕ) → x ≡ d → (member xs d ≡ true) ⊎ (member xs d ≡ false) → more.at d ≡ side d
    front d f (inl m) = more.same d m
    front d f (inr m) = more.rest d m ∙ subst (λ y. decided x (side x) start y ≡ side y) f (decided_at x (side x) start)

    same : (d : ℕ) → member (x ∷ xs) d ≡ true → more.at d ≡ side d
    same d m = ⊎_elim
        (λ f. front d (eqb-true x d f) (cases_Bool (member xs d)))
        (λ n. more.same d n)
        (or_cases (eqb x d) (member xs d) m)

    rest : (d : ℕ) → member (x ∷ xs) d ≡ false → more.at d ≡ start d
    rest d m =
        let r = or_parts (eqb x d) (member xs d) m in
        more.rest d r.1 ∙ decided_else x d (side x) start r.0

alike : (p : (ℕ → Bool) → Bool) (xs : List ℕ) (start side : ℕ → Bool) → each_side p xs start ≡ true → Alike p xs start side
alike p [] start side e = record { at = start; passes = e; same = λ d m. absurd (false≢true m); rest = λ d m. refl }
alike p (x ∷ xs) start side e = alike_more p x xs start side (alike p xs (decided x (side x) start) side (each_side_half p x xs start e (side x)))

any_member : (p : ℕ → Bool) (xs : List ℕ) (d : ℕ) → member xs d ≡ true → p d ≡ true → any p xs ≡ true
any_member p [] d m i = absurd (false≢true m)
any_member p (x ∷ xs) d m i = ⊎_elim
    (λ e. or_left (p x) (any p xs) (ap p (eqb-true x d e) ∙ i))
    (λ n. or_right (p x) (any p xs) (any_member p xs d n i))
    (or_cases (eqb x d) (member xs d) m)

-- sides that agree on the members have the same crossings
crossings_alike : (cs : List Cable) (S side side' : ℕ → Bool) → ((d : ℕ) → S d ≡ true → side d ≡ side' d) → crossings cs S side ≤ crossings cs S side'
crossings_alike cs S side side' same = count_le (crosses S side) (crosses S side') cs (λ i c st e.
    let b = crosses_belongs S side c e in
    let r = and_parts (S c.a) (S c.b) b in
    crosses_from S side' c b (λ f. crosses_parts S side c e (same c.a r.0 ∙ f ∙ sym (same c.b r.1))))

pub tied_by_test : (cs : List Cable) (g : List ℕ) (k : ℕ) → tied_test cs g k ≡ true → Tied cs (member g) k
tied_by_test cs g k e side s = ⊎_elim
    (λ n. absurd (false≢true (sym (not-true (parted g t.at) n) ∙ both)))
    (λ h. omega (arith, leb-true k (crossings cs (member g) t.at) h, crossings_alike cs (member g) t.at side t.same))
    (or_cases (not (parted g t.at)) (leb k (crossings cs (member g) t.at)) t.passes)
  where
    t : Alike (λ side. not (parted g side) || leb k (crossings cs (member g) side)) g (λ d. false) side
    t = alike (λ side. not (parted g side) || leb k (crossings cs (member g) side)) g (λ d. false) side e

    both : parted g t.at ≡ true
    both = and_from (any t.at g) (any (λ d. not (t.at d)) g)
        (any_member t.at g s.left s.left_in (t.same s.left s.left_in ∙ s.left_side))
        (any_member (λ d. not (t.at d)) g s.right s.right_in (not_from_false (t.at s.right) (t.same s.right s.right_in ∙ s.right_side)))
