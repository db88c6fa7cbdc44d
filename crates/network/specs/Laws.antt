-- What is true of strengths, groups and joining, whatever the cables. Assumes nothing.
--   OneStrength   a list has no two strengths
--   NoneStronger  no set that contains a list is stronger than the list
--   OneGroup      a list has no two groups
--   UnionTied     two sets that share a device, each tied by k, have a union tied by k
--   TiedHolds     a set is tied by k exactly when the loss of fewer than k of its own cables leaves it joined
--   StrengthParts a set of strength k is parted by the loss of some k of its own cables
use Rattle.std.specs.Prelude.{◌≡◌, ℕ, ◌≤◌, Bool, true, ◌||◌, ◌↔◌, List}
use Rattle.network.specs.Sets.{DeviceSet, Tied, Strength}
use Rattle.network.specs.Lists.{Contains, ListStrength, Group}
use Rattle.network.specs.Chains.{Holds, Parts}
use Rattle.network.specs.declared.cable.Cable.{Cable}

abbrev pub OneStrength : Type 0
OneStrength = (cs : List Cable) (l : List ℕ) (j k : ℕ) → ListStrength cs l j → ListStrength cs l k → j ≡ k

abbrev pub NoneStronger : Type 0
NoneStronger = (cs : List Cable) (l : List ℕ) (k : ℕ) → ListStrength cs l k
    → (S : ℕ → Bool) (j : ℕ) → DeviceSet S → Contains S l → Strength cs S j → j ≤ k

abbrev pub OneGroup : Type 0
OneGroup = (cs : List Cable) (l : List ℕ) (k : ℕ) (G H : ℕ → Bool) → Group cs l k G → Group cs l k H → (d : ℕ) → G d ≡ H d

abbrev pub UnionTied : Type 0
UnionTied = (cs : List Cable) (S T : ℕ → Bool) (k d : ℕ) → S d ≡ true → T d ≡ true
    → Tied cs S k → Tied cs T k → Tied cs (λ x. S x || T x) k

abbrev pub TiedHolds : Type 0
TiedHolds = (cs : List Cable) (S : ℕ → Bool) (k : ℕ) → Tied cs S k ↔ Holds cs S k

abbrev pub StrengthParts : Type 0
StrengthParts = (cs : List Cable) (S : ℕ → Bool) (k : ℕ) → Strength cs S k → Parts cs S k
