-- The strength and the group of a list from a computed test: a set that is tied, a good sheet, and few cables out of the set. Assumes nothing.
--   set_test g                 the list names devices only, and begins with two different ones
--   out cs g                   how many cables have one end among the devices g
--   known_test cs l k g part   g is tied by k, contains the list, and fewer than k cables lead out of it; the sheet is good for the list at k
--   Known cs l k g             k is the strength of the list, above 0, and g its group
use Rattle.std.proofs.Common.{◌≡◌, ℕ, ◌<◌, Bool, true, false, not, ◌&&◌, eqb, ltb, List, [], ◌∷◌, sym, refl, ap, ◌∙◌, ⊎_elim, arith}
use Rattle.std.proofs.lemmas.Bool.{false≢true, and_parts, or_cases, not-true, eqb-false, eqb-true, ltb-true, cases_Bool}
use Rattle.network.specs.Sets.{DeviceSet, Split, Tied, crossings}
use Rattle.network.specs.Lists.{member, Contains, ListStrength, Group}
use Rattle.network.specs.Figures.{contains}
use Rattle.network.specs.Sheets.{GoodSheet}
use Rattle.network.specs.declared.cable.Cable.{Cable}
use Rattle.network.proofs.Members.{here, there}
use Rattle.network.proofs.Sides.{crossings_wider}
use Rattle.network.proofs.Strengths.{exact, list_strength}
use Rattle.network.proofs.SetTests.{contains_says}
use Rattle.network.proofs.Sheets.{sheet_sound, sheet_strength}
use Rattle.figures.proofs.SideTests.{tied_test, tied_by_test}
use Rattle.figures.proofs.SheetTests.{each, good_test, good_by_test}

abbrev pub set_test : List ℕ → Bool
set_test [] = false
set_test (x ∷ []) = false
set_test (x ∷ y ∷ g) = not (eqb x y) && each (λ d. ltb d 128) (x ∷ y ∷ g)

abbrev pub out : List Cable → List ℕ → ℕ
out cs g = crossings cs (λ d. true) (member g)

abbrev pub known_test : List Cable → List ℕ → ℕ → List ℕ → (part : ℕ → ℕ) → Bool
known_test cs l k g part = set_test g && (contains (member g) l && (ltb (out cs g) k && (tied_test cs g k && good_test cs l k part)))

pub record Known (cs : List Cable) (l : List ℕ) (k : ℕ) (g : List ℕ) : Type 0 where
  pub above : 0 < k
  pub strength : ListStrength cs l k
  pub group : Group cs l k (member g)

each_member : (p : ℕ → Bool) (xs : List ℕ) → each p xs ≡ true → (d : ℕ) → member xs d ≡ true → p d ≡ true
each_member p [] e d m = absurd (false≢true m)
each_member p (x ∷ xs) e d m =
    let r = and_parts (p x) (each p xs) e in
    ⊎_elim (λ f. ap p (sym (eqb-true x d f)) ∙ r.0) (λ n. each_member p xs r.1 d n) (or_cases (eqb x d) (member xs d) m)

pub set_by_test : (g : List ℕ) → set_test g ≡ true → DeviceSet (member g)
set_by_test [] e = absurd (false≢true e)
set_by_test (x ∷ []) e = absurd (false≢true e)
set_by_test (x ∷ y ∷ g) e =
    let r = and_parts (not (eqb x y)) (each (λ d. ltb d 128) (x ∷ y ∷ g)) e in
    record {
      below = λ d m. ltb-true d 128 (each_member (λ d. ltb d 128) (x ∷ y ∷ g) r.1 d m);
      one = x;
      other = y;
      one_in = here x (y ∷ g);
      other_in = there x y (y ∷ g) (here y g);
      apart = eqb-false x y (not-true (eqb x y) r.0);
    }

-- a set that is tied by k and has a device of g lies in g, where fewer than k cables lead out
fenced : (cs : List Cable) (g : List ℕ) (k : ℕ) → out cs g < k → (S : ℕ → Bool) → Tied cs S k
    → (x : ℕ) → S x ≡ true → member g x ≡ true → (d : ℕ) → S d ≡ true → member g d ≡ true
fenced cs g k few S tied x i m d j = ⊎_elim
    (λ n. n)
    (λ o.
    let s : Split S (member g) = record { left = x; right = d; left_in = i; right_in = j; left_side = m; right_side = o } in
    absurd (omega (arith, tied (member g) s, crossings_wider cs S (λ d. true) (member g) (λ d h. refl))))
    (cases_Bool (member g d))

pub known_by_test : (cs : List Cable) (x : ℕ) (l : List ℕ) (k : ℕ) (g : List ℕ) (part : ℕ → ℕ) → known_test cs (x ∷ l) k g part ≡ true → Known cs (x ∷ l) k g
known_by_test cs x l k g part e = record {
  above = omega (arith, few);
  strength = sheet_strength cs (x ∷ l) k part sheet (member g) set has tied;
  group = record {
    devices = set;
    has = has;
    strong = exact cs (member g) k tied (sheet_sound cs (x ∷ l) k part sheet (member g) set has);
    most = λ S devices contained strong. fenced cs g k few S strong.tied x (contained x (here x l)) (has x (here x l));
  };
}
  where
    first : (set_test g ≡ true) × ((contains (member g) (x ∷ l) && (ltb (out cs g) k && (tied_test cs g k && good_test cs (x ∷ l) k part))) ≡ true)
    first = and_parts (set_test g) (contains (member g) (x ∷ l) && (ltb (out cs g) k && (tied_test cs g k && good_test cs (x ∷ l) k part))) e

    second : (contains (member g) (x ∷ l) ≡ true) × ((ltb (out cs g) k && (tied_test cs g k && good_test cs (x ∷ l) k part)) ≡ true)
    second = and_parts (contains (member g) (x ∷ l)) (ltb (out cs g) k && (tied_test cs g k && good_test cs (x ∷ l) k part)) first.1

    third : (ltb (out cs g) k ≡ true) × ((tied_test cs g k && good_test cs (x ∷ l) k part) ≡ true)
    third = and_parts (ltb (out cs g) k) (tied_test cs g k && good_test cs (x ∷ l) k part) second.1

    fourth : (tied_test cs g k ≡ true) × (good_test cs (x ∷ l) k part ≡ true)
    fourth = and_parts (tied_test cs g k) (good_test cs (x ∷ l) k part) third.1

    set : DeviceSet (member g)
    set = set_by_test g first.0

    has : Contains (member g) (x ∷ l)
    has = contains_says (member g) (x ∷ l) second.0

    few : out cs g < k
    few = ltb-true (out cs g) k third.0

    tied : Tied cs (member g) k
    tied = tied_by_test cs g k fourth.0

    sheet : GoodSheet cs (x ∷ l) k part
    sheet = good_by_test cs (x ∷ l) k part fourth.1

-- a sheet that is good at 0 sets the list apart
pub apart_by_test : (cs : List Cable) (l : List ℕ) (part : ℕ → ℕ) → each (λ d. ltb d 128) l ≡ true → good_test cs l 0 part ≡ true → ListStrength cs l 0
apart_by_test cs l part low test = list_strength cs l 0
    (λ d m. ltb-true d 128 (each_member (λ x. ltb x 128) l low d m))
    (sheet_sound cs l 0 part (good_by_test cs l 0 part test))
    (λ pos. absurd (omega arith))
