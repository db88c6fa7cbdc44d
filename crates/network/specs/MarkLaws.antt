-- What marks say of strengths and groups, whatever the cables. Assumes nothing.
--   CommonChain     two devices lie in a set tied by k exactly when a chain of cables marked k or more links them
--   ListChained     the strength of a list is the highest mark whose cables, with all higher ones, chain its devices
--   SeveralLinked   for two different devices or more: whose cables join them
--   LoneTouched     for one device: it is the highest mark of its cables
--   GroupChained    the group of a list is what cables of its strength or more link to one of its devices
use Rattle.std.specs.Prelude.{◌≡◌, ℕ, suc, ◌<◌, Bool, true, ◌↔◌, List, [], ◌∷◌}
use Rattle.network.specs.Sets.{DeviceSet}
use Rattle.network.specs.Lists.{member, ListStrength, Group}
use Rattle.network.specs.Chains.{Linked, Join}
use Rattle.network.specs.Marks.{OfDevices, Around, Marks, Strong, Chain, Chained, Touched}
use Rattle.network.specs.declared.cable.Cable.{Cable}

abbrev pub CommonChain : Type 0
CommonChain = (cs : List Cable) (mark : ℕ → ℕ) → Marks cs mark → (k : ℕ) → 0 < k → (x y : ℕ) → Around cs (x ∷ y ∷ []) k ↔ Chain (Strong cs mark k) x y

abbrev pub ListChained : Type 0
ListChained = (cs : List Cable) (mark : ℕ → ℕ) → Marks cs mark → (l : List ℕ) (x : ℕ) → OfDevices l → member l x ≡ true → (k : ℕ)
    → ListStrength cs l k ↔ ((0 < k → Chained (Strong cs mark k) (member l)) × (Chained (Strong cs mark (suc k)) (member l) → ⊥))

abbrev pub SeveralLinked : Type 0
SeveralLinked = (cs : List Cable) (mark : ℕ → ℕ) → Marks cs mark → (l : List ℕ) → DeviceSet (member l) → (k : ℕ)
    → ListStrength cs l k ↔ ((0 < k → Join (Strong cs mark k) (member l)) × (Join (Strong cs mark (suc k)) (member l) → ⊥))

abbrev pub LoneTouched : Type 0
LoneTouched = (cs : List Cable) (mark : ℕ → ℕ) → Marks cs mark → (x : ℕ) → x < 128 → (k : ℕ)
    → ListStrength cs (x ∷ []) k ↔ ((0 < k → Touched (Strong cs mark k) x) × (Touched (Strong cs mark (suc k)) x → ⊥))

abbrev pub GroupChained : Type 0
GroupChained = (cs : List Cable) (mark : ℕ → ℕ) → Marks cs mark → (l : List ℕ) (x : ℕ) → member l x ≡ true → (k : ℕ) → 0 < k → ListStrength cs l k
    → (G : ℕ → Bool) → ((d : ℕ) → (G d ≡ true) ↔ Linked (Strong cs mark k) x d) → Group cs l k G
