-- Chains of cables, what they join, and what is left when some cables go. Assumes nothing.
--   Leads c x y         the cable joins x and y, either way round
--   Linked P x y        a chain of cables of the kind P, none or more, leads from x to y
--   Join P D            the cables of the kind P join the devices of D: every two of these are linked by such a chain
--   Stays cs S gone c   the cable belongs to S and stands at a place of the list that is not gone
--   lost gone S cs      how many cables of S stand at places that are gone
--   Holds cs S k        whichever of its own cables go, fewer than k, the rest of them join S
--   Parts cs S k        for some choice of k of its own cables, the rest of them do not join S
use Rattle.std.specs.Prelude.{◌≡◌, ℕ, suc, ◌+◌, ◌<◌, Bool, true, false, cond, ◌&&◌, ◌⊎◌, List, [], ◌∷◌, Some}
use Rattle.std.specs.List.{slice_get}
use Rattle.network.specs.Sets.{belongs}
use Rattle.network.specs.declared.cable.Cable.{Cable}

abbrev pub Leads : Cable → ℕ → ℕ → Type 0
Leads c x y = ((c.a ≡ x) × (c.b ≡ y)) ⊎ ((c.a ≡ y) × (c.b ≡ x))

pub data Linked (P : Cable → Type 0) : ℕ → ℕ → Type 0 where
  stay : {x : ℕ} → Linked P x x
  hop : {x y z : ℕ} (c : Cable) → P c → Leads c x y → Linked P y z → Linked P x z

abbrev pub Join : (P : Cable → Type 0) (D : ℕ → Bool) → Type 0
Join P D = (x y : ℕ) → D x ≡ true → D y ≡ true → Linked P x y

abbrev pub Stays : List Cable → (S gone : ℕ → Bool) → Cable → Type 0
Stays cs S gone c = (i : ℕ) × (slice_get cs i ≡ Some c) × (gone i ≡ false) × (belongs S c ≡ true)

abbrev pub lost : (gone S : ℕ → Bool) → List Cable → ℕ
lost gone S [] = 0
lost gone S (c ∷ cs) = cond (gone 0 && belongs S c) 1 0 + lost (λ i. gone (suc i)) S cs

abbrev pub Holds : List Cable → (ℕ → Bool) → ℕ → Type 0
Holds cs S k = (gone : ℕ → Bool) → lost gone S cs < k → Join (Stays cs S gone) S

abbrev pub Parts : List Cable → (ℕ → Bool) → ℕ → Type 0
Parts cs S k = (gone : ℕ → Bool) × (lost gone S cs ≡ k) × (Join (Stays cs S gone) S → ⊥)
