-- The strength of a set, and the strength and the group of a list, as figures: each is found among all sets of devices. Assumes nothing.
--   any p xs             some element of the list passes the test
--   least k ns           the least of k and the numbers of the list
--   greatest ns          the greatest number of the list; 0 of none
--   numbers n            the numbers below n
--   with_number n S      the set S and the number n
--   every n              every set of numbers below n
--   splits S side        `side` parts the devices of S in two, as a test
--   set_strength cs S    the fewest crossings over all splits of S; no split has more crossings than there are cables
--   several S            S has two devices or more, as a test
--   contains S l         S has each device that the list names, as a test
--   sets_around l        the sets of two or more devices that contain the list
--   strength_of cs l     the highest strength of a set that contains the list
--   strongest cs l S     S has the strength of the list, as a test
--   group_of cs l        the devices of all sets that contain the list and have its strength
--   SetStrength          each set of devices has that strength
--   HasStrength          each list of devices has that strength
--   HasGroup             each list that names a device, and devices only, has that group
use Rattle.std.specs.Prelude.{◌≡◌, ℕ, zero, suc, min, max, Bool, true, false, not, ◌&&◌, ◌||◌, List, [], ◌∷◌, ◌++◌, map, length, filter, ◌==◌}
use Rattle.network.specs.Sets.{DeviceSet, Strength, crossings}
use Rattle.network.specs.Lists.{member, ListStrength, Group}
use Rattle.network.specs.Marks.{OfDevices}
use Rattle.network.specs.declared.cable.Cable.{Cable}

abbrev pub any : {X : Type 0} → (X → Bool) → List X → Bool
any p [] = false
any p (x ∷ xs) = p x || any p xs

abbrev pub least : ℕ → List ℕ → ℕ
least k [] = k
least k (n ∷ ns) = min n (least k ns)

abbrev pub greatest : List ℕ → ℕ
greatest [] = 0
greatest (n ∷ ns) = max n (greatest ns)

unfoldable pub numbers : ℕ → List ℕ
numbers zero = []
numbers (suc n) = n ∷ numbers n

abbrev pub with_number : ℕ → (ℕ → Bool) → ℕ → Bool
with_number n S d = d == n || S d

unfoldable pub every : ℕ → List (ℕ → Bool)
every zero = (λ d. false) ∷ []
every (suc n) = every n ++ map (with_number n) (every n)

unfoldable pub splits : (S side : ℕ → Bool) → Bool
splits S side = any (λ d. S d && side d) (numbers 128) && any (λ d. S d && not (side d)) (numbers 128)

unfoldable pub set_strength : List Cable → (ℕ → Bool) → ℕ
set_strength cs S = least (length cs) (map (crossings cs S) (filter (splits S) (every 128)))

unfoldable pub several : (ℕ → Bool) → Bool
several S = any (λ d. S d && any (λ e. S e && not (d == e)) (numbers 128)) (numbers 128)

abbrev pub contains : (ℕ → Bool) → List ℕ → Bool
contains S [] = true
contains S (x ∷ l) = S x && contains S l

unfoldable pub sets_around : List ℕ → List (ℕ → Bool)
sets_around l = filter (λ S. several S && contains S l) (every 128)

unfoldable pub strength_of : List Cable → List ℕ → ℕ
strength_of cs l = greatest (map (set_strength cs) (sets_around l))

abbrev pub strongest : List Cable → List ℕ → (ℕ → Bool) → Bool
strongest cs l S = set_strength cs S == strength_of cs l

unfoldable pub group_of : List Cable → List ℕ → ℕ → Bool
group_of cs l d = any (λ S. strongest cs l S && S d) (sets_around l)

abbrev pub SetStrength : Type 0
SetStrength = (cs : List Cable) (S : ℕ → Bool) → DeviceSet S → Strength cs S (set_strength cs S)

abbrev pub HasStrength : Type 0
HasStrength = (cs : List Cable) (l : List ℕ) → OfDevices l → ListStrength cs l (strength_of cs l)

abbrev pub HasGroup : Type 0
HasGroup = (cs : List Cable) (l : List ℕ) (x : ℕ) → OfDevices l → member l x ≡ true → Group cs l (strength_of cs l) (group_of cs l)
