-- What the marks of the cables say of a device and of a set. Assumes nothing.
--   touches c x           the cable has an end at x, as a test
--   Highest cs mark x k   k is the highest mark of the cables at the device x; 0 where there is none
--   Joining cs mark D k   k is the highest mark whose cables, with all higher ones, join the devices of D; 0 where there is none
use Rattle.std.specs.Prelude.{ℕ, suc, ◌<◌, Bool, ◌||◌, List, ◌==◌}
use Rattle.network.specs.Chains.{Join}
use Rattle.network.specs.Marks.{Strong, Touched}
use Rattle.network.specs.declared.cable.Cable.{Cable}

abbrev pub touches : Cable → ℕ → Bool
touches c x = c.a == x || c.b == x

abbrev pub Highest : List Cable → (mark : ℕ → ℕ) → (x k : ℕ) → Type 0
Highest cs mark x k = (0 < k → Touched (Strong cs mark k) x) × (Touched (Strong cs mark (suc k)) x → ⊥)

abbrev pub Joining : List Cable → (mark : ℕ → ℕ) → (D : ℕ → Bool) → ℕ → Type 0
Joining cs mark D k = (0 < k → Join (Strong cs mark k) D) × (Join (Strong cs mark (suc k)) D → ⊥)
