-- Marks by place, and what the cables of a mark or more chain together. Assumes nothing.
--   OfDevices l           the list names devices only
--   Around cs l k         a device set that contains the list and that k ties
--   Marks cs mark         the cable at each place i has the mark `mark i`
--   Strong cs mark k c    the cable stands at a place whose mark is k or more
--   Chain P x y           a chain of cables of the kind P, one or more, leads from x to y
--   Chained P D           such a chain leads from each device of D to each, itself too
--   Touched P x           a cable of the kind P has an end at x
use Rattle.std.specs.Prelude.{◌≡◌, ℕ, ◌<◌, ◌≤◌, Bool, true, ◌⊎◌, List, Some}
use Rattle.std.specs.List.{slice_get}
use Rattle.network.specs.Sets.{DeviceSet, Tied}
use Rattle.network.specs.Lists.{member, Contains, Mark}
use Rattle.network.specs.Chains.{Leads, Linked}
use Rattle.network.specs.declared.cable.Cable.{Cable}

abbrev pub OfDevices : List ℕ → Type 0
OfDevices l = (d : ℕ) → member l d ≡ true → d < 128

pub record Around (cs : List Cable) (l : List ℕ) (k : ℕ) : Type 0 where
  pub set : ℕ → Bool
  pub devices : DeviceSet set
  pub has : Contains set l
  pub tied : Tied cs set k

abbrev pub Marks : List Cable → (mark : ℕ → ℕ) → Type 0
Marks cs mark = (i : ℕ) (c : Cable) → slice_get cs i ≡ Some c → Mark cs c (mark i)

abbrev pub Strong : List Cable → (mark : ℕ → ℕ) → ℕ → Cable → Type 0
Strong cs mark k c = (i : ℕ) × (slice_get cs i ≡ Some c) × (k ≤ mark i)

abbrev pub Chain : (P : Cable → Type 0) → ℕ → ℕ → Type 0
Chain P x y = (c : Cable) × (z : ℕ) × P c × Leads c x z × Linked P z y

abbrev pub Chained : (P : Cable → Type 0) (D : ℕ → Bool) → Type 0
Chained P D = (x y : ℕ) → D x ≡ true → D y ≡ true → Chain P x y

abbrev pub Touched : (P : Cable → Type 0) → ℕ → Type 0
Touched P x = (c : Cable) × P c × ((c.a ≡ x) ⊎ (c.b ≡ x))
