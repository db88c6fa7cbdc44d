-- Cut sheets: a part number for each device, and when a sheet is good. Assumes nothing.
--   inside part p          the devices of part p, as a set
--   leads_up part p c      the cable joins part p and a part with a higher number
--   leading cs part p      how many cables of the list do
--   Lacks part l p         part p lacks a device that the list names
--   Lone part p            part p has one device at most
--   GoodSheet cs l k part  each part leads up by k cables or fewer, and lacks a listed device or is lone: so no set that contains the list is stronger than k
use Rattle.std.specs.Prelude.{◌≡◌, ℕ, ◌<◌, ◌≤◌, Bool, true, ◌&&◌, ◌||◌, ◌⊎◌, List, count_by, ◌==◌, ◌≢◌, nat_lt}
use Rattle.network.specs.Lists.{member}
use Rattle.network.specs.declared.cable.Cable.{Cable}

abbrev pub inside : (part : ℕ → ℕ) → ℕ → ℕ → Bool
inside part p d = nat_lt d 128 && part d == p

abbrev pub leads_up : (part : ℕ → ℕ) → ℕ → Cable → Bool
leads_up part p c = (part c.a == p && nat_lt p (part c.b)) || (part c.b == p && nat_lt p (part c.a))

abbrev pub leading : List Cable → (part : ℕ → ℕ) → ℕ → ℕ
leading cs part p = count_by (leads_up part p) cs

abbrev pub Lacks : (part : ℕ → ℕ) → List ℕ → ℕ → Type 0
Lacks part l p = (d : ℕ) × (member l d ≡ true) × (part d ≢ p)

abbrev pub Lone : (part : ℕ → ℕ) → ℕ → Type 0
Lone part p = (x y : ℕ) → x < 128 → y < 128 → part x ≡ p → part y ≡ p → x ≡ y

pub record GoodSheet (cs : List Cable) (l : List ℕ) (k : ℕ) (part : ℕ → ℕ) : Type 0 where
  pub few : (d : ℕ) → d < 128 → leading cs part (part d) ≤ k
  pub small : (d : ℕ) → d < 128 → Lacks part l (part d) ⊎ Lone part (part d)
