-- The strength and the group of a list of devices, and the mark of a cable. Assumes nothing.
--   member l d             the list names the device d; how often does not matter
--   Contains S l           the set has every device that the list names
--   Attains cs l k         some set that contains the list has the strength k
--   ListStrength cs l k    k is the highest strength of a set that contains the list: some such set has it, and each such
--                          set has a split with no more crossings. The list is apart when this is 0.
--   Group cs l k G         G is the set of strength k that contains the list and every other set of strength k that does
--   ends c                 the list of the two ends of a cable
--   Mark cs c k            the mark of a cable: the strength of the list of its ends
use Rattle.std.specs.Prelude.{◌≡◌, ℕ, Bool, true, false, ◌||◌, List, [], ◌∷◌, ◌==◌}
use Rattle.network.specs.Sets.{DeviceSet, WeakSplit, Strength}
use Rattle.network.specs.declared.cable.Cable.{Cable}

abbrev pub member : List ℕ → ℕ → Bool
member [] d = false
member (x ∷ xs) d = x == d || member xs d

abbrev pub Contains : (ℕ → Bool) → List ℕ → Type 0
Contains S l = (d : ℕ) → member l d ≡ true → S d ≡ true

pub record Attains (cs : List Cable) (l : List ℕ) (k : ℕ) : Type 0 where
  pub set : ℕ → Bool
  pub devices : DeviceSet set
  pub has : Contains set l
  pub strong : Strength cs set k

pub record ListStrength (cs : List Cable) (l : List ℕ) (k : ℕ) : Type 0 where
  pub attained : Attains cs l k
  pub bound : (S : ℕ → Bool) → DeviceSet S → Contains S l → WeakSplit cs S k

pub record Group (cs : List Cable) (l : List ℕ) (k : ℕ) (G : ℕ → Bool) : Type 0 where
  pub devices : DeviceSet G
  pub has : Contains G l
  pub strong : Strength cs G k
  pub most : (S : ℕ → Bool) → DeviceSet S → Contains S l → Strength cs S k → (d : ℕ) → S d ≡ true → G d ≡ true

abbrev pub ends : Cable → List ℕ
ends c = c.a ∷ c.b ∷ []

abbrev pub Mark : List Cable → Cable → ℕ → Type 0
Mark cs c k = ListStrength cs (ends c) k
