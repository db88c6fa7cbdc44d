-- What a forest keeps, and that it links what all cables link. The kept places are `place 0` up to `place (n - 1)`. Assumes nothing.
--   place_of f                               the places of a forest, in its order
--   Before place n i                         i is one of the first n places
--   Kept cs place n c                        the cable stands at one of them
--   KeptReaching over cs grade place n g c   and its grade reaches g
--   ReachingUpTo over cs grade g n c         the cable stands before the place n of the list, and its grade reaches g
--   Spans over cs grade place n              what is kept are places of cables, the best first, none of them links what those before it
--                                            link, and for every grade the kept cables that reach it link what all that reach it link
--   Longer f i f'                            f' has the place i more than f, at the end
use Rattle.std.specs.Prelude.{◌≡◌, ℕ, ◌+◌, ◌<◌, ◌≤◌, Bool, true, ◌↔◌, List, length, Some, slice_index}
use Rattle.std.specs.List.{slice_get}
use Rattle.network.specs.declared.cable.Cable.{Cable}
use Rattle.network.specs.Chains.{Linked}
use Rattle.forest.specs.declared.forest.Forest.{Forest}
use Rattle.forest.specs.Places.{Laid, Among, Reaching}

abbrev pub place_of : Forest → ℕ → ℕ
place_of f j = slice_index f.places j

abbrev pub Before : (place : ℕ → ℕ) → ℕ → ℕ → Type 0
Before place n i = (j : ℕ) × (j < n) × (place j ≡ i)

abbrev pub Kept : List Cable → (place : ℕ → ℕ) → ℕ → Cable → Type 0
Kept cs place n c = Among cs (Before place n) c

abbrev pub KeptReaching : {G : Type 0} → (over : G → G → Bool) → List Cable → (grade : ℕ → G) → (place : ℕ → ℕ) → ℕ → G → Cable → Type 0
KeptReaching over cs grade place n g c = Among cs (λ i. Before place n i × (over (grade i) g ≡ true)) c

abbrev pub ReachingUpTo : {G : Type 0} → (over : G → G → Bool) → List Cable → (grade : ℕ → G) → G → ℕ → Cable → Type 0
ReachingUpTo over cs grade g n c = Among cs (λ i. (i < n) × (over (grade i) g ≡ true)) c

pub record Spans {G : Type 0} (over : G → G → Bool) (cs : List Cable) (grade : ℕ → G) (place : ℕ → ℕ) (n : ℕ) : Type 0 where
  pub laid : (j : ℕ) → j < n → place j < length cs
  pub falling : (j k : ℕ) → j ≤ k → k < n → over (grade (place j)) (grade (place k)) ≡ true
  pub fresh : (k : ℕ) (c : Cable) → k < n → slice_get cs (place k) ≡ Some c → Linked (Kept cs place k) c.a c.b → ⊥
  pub every : (g : G) (x y : ℕ) → Linked (KeptReaching over cs grade place n g) x y ↔ Linked (Reaching over cs grade g) x y
  pub whole : (x y : ℕ) → Linked (Kept cs place n) x y ↔ Linked (Laid cs) x y

pub record Longer (f : Forest) (i : ℕ) (f' : Forest) : Type 0 where
  pub longer : f'.count ≡ f.count + 1
  pub last : place_of f' f.count ≡ i
  pub others : (j : ℕ) → j < f.count → place_of f' j ≡ place_of f j
