-- A list of devices as a set, and how it lies to a side of a cut. Assumes nothing.
--   Names l D          the list names the devices of the set D and no others
--   Meets D side       some device of D is on the side
--   Facing D side r    r is the side or the other one, and has a device of D if there is any
use Rattle.std.specs.Prelude.{◌≡◌, ℕ, ◌<◌, Bool, true, not, ◌⊎◌, List}
use Rattle.network.specs.Lists.{member}

abbrev pub Names : List ℕ → (ℕ → Bool) → Type 0
Names l D = (d : ℕ) → D d ≡ member l d

abbrev pub Meets : (D side : ℕ → Bool) → Type 0
Meets D side = (d : ℕ) × (D d ≡ true) × (side d ≡ true)

pub record Facing (D side r : ℕ → Bool) : Type 0 where
  pub is : ((d : ℕ) → d < 128 → r d ≡ side d) ⊎ ((d : ℕ) → d < 128 → r d ≡ not (side d))
  pub meets : (x : ℕ) → D x ≡ true → Meets D r
