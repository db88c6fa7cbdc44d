-- A set is tied by k just if the loss of fewer than k of its own cables leaves it joined; its weakest split parts it. Assumes nothing.
use Rattle.std.proofs.Common.{◌≡◌, ℕ, Bool, true, false, cond, ◌&&◌, List, [], ◌∷◌, Some, None, Option, sym, refl, ap, ◌∙◌, ⊎_elim, arith}
use Rattle.std.specs.List.{slice_get}
use Rattle.std.proofs.lemmas.Bool.{both_ways, cases_lt}
use Rattle.network.specs.Sets.{Split, Tied, belongs, differ, crosses, crossings}
use Rattle.network.specs.Chains.{Join, Stays, lost, Holds}
use Rattle.network.specs.Laws.{TiedHolds, StrengthParts}
use Rattle.network.specs.declared.cable.Cable.{Cable}
use Rattle.network.proofs.Counts.{count_cons}
use Rattle.network.proofs.Sides.{same_or, crosses_from, split_differs}
use Rattle.network.proofs.Strengths.{tied_weak}
use Rattle.network.proofs.Links.{linked_same}
use Rattle.network.proofs.Labels.{linked_or_parted}

pub tied_holds : (cs : List Cable) (S : ℕ → Bool) (k : ℕ) → Tied cs S k → Holds cs S k
tied_holds cs S k tied gone few x y ix iy = ⊎_elim (λ h. h)
    (λ w. absurd (omega (arith, tied_weak cs S k (lost gone S cs) tied w)))
    (linked_or_parted gone S cs x y ix iy)

abbrev crosses_at : (S side : ℕ → Bool) → Option Cable → Bool
crosses_at S side (Some c) = crosses S side c
crosses_at S side None = false

-- the places of the cables that cross
abbrev cutting : List Cable → (S side : ℕ → Bool) → ℕ → Bool
cutting cs S side i = crosses_at S side (slice_get cs i)

cutting_lost : (cs : List Cable) (S side : ℕ → Bool) → lost (cutting cs S side) S cs ≡ crossings cs S side
cutting_lost [] S side = refl
cutting_lost (c ∷ cs) S side =
    omega (arith, count_cons (crosses S side) c cs, cutting_lost cs S side, ap {B = ℕ} (λ t. cond t 1 0) (again (belongs S c) (differ (side c.a) (side c.b))))
  where
    again : (x y : Bool) → ((x && y) && x) ≡ (x && y)
    again true true = refl
    again true false = refl
    again false y = refl

-- without them the two sides are parted
cutting_parts : (cs : List Cable) (S side : ℕ → Bool) → Split S side → Join (Stays cs S (cutting cs S side)) S → ⊥
cutting_parts cs S side split join = split_differs S side split (linked_same side same (join split.left split.right split.left_in split.right_in))
  where
    same : (c : Cable) → Stays cs S (cutting cs S side) c → side c.a ≡ side c.b
    same c (i, st, off, m) = ⊎_elim (λ e. e)
        (λ n. absurd (both_ways (crosses S side c) (sym (ap (crosses_at S side) st) ∙ off) (crosses_from S side c m n)))
        (same_or (side c.a) (side c.b))

holds_tied : (cs : List Cable) (S : ℕ → Bool) (k : ℕ) → Holds cs S k → Tied cs S k
holds_tied cs S k holds side split = ⊎_elim
    (λ lt. absurd (cutting_parts cs S side split (holds (cutting cs S side) (omega (arith, cutting_lost cs S side)))))
    (λ le. le)
    (cases_lt (crossings cs S side) k)

pub tied_just_holds : TiedHolds
tied_just_holds cs S k = (tied_holds cs S k, holds_tied cs S k)

pub strength_parts : StrengthParts
strength_parts cs S k s = (cutting cs S s.side, cutting_lost cs S s.side ∙ s.attained, cutting_parts cs S s.side s.split)
