-- The poorest cable that a set of devices needs. Assumes nothing.
--   Poorest over cs grade D r    r is the best grade whose cables join D; none where all cables together do not join D
--   PoorestUnique over          there is one such answer
use Rattle.std.specs.Prelude.{◌≡◌, ℕ, Bool, true, List, Some, None, Option}
use Rattle.network.specs.declared.cable.Cable.{Cable}
use Rattle.network.specs.Chains.{Join}
use Rattle.forest.specs.Places.{Laid, Reaching}

abbrev pub Poorest : {G : Type 0} → (over : G → G → Bool) → List Cable → (grade : ℕ → G) → (D : ℕ → Bool) → Option G → Type 0
Poorest over cs grade D None = Join (Laid cs) D → ⊥
Poorest {G} over cs grade D (Some g) = Join (Reaching over cs grade g) D × ((h : G) → Join (Reaching over cs grade h) D → over g h ≡ true)

abbrev pub PoorestUnique : {G : Type 0} → (over : G → G → Bool) → Type 0
PoorestUnique {G} over = (cs : List Cable) (grade : ℕ → G) (D : ℕ → Bool) (r s : Option G) → Poorest over cs grade D r → Poorest over cs grade D s → r ≡ s
