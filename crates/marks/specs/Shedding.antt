-- Parts of the devices with a floor for each, as cuts shed them, and the marks that the cuts give. Assumes nothing.
--   inside part p                   the devices of part p, as a set
--   Over cs part p k                a device set that holds all of part p and that k ties
--   Floored cs part p f             f is the floor of part p: some set over the part is tied by f, unless f is 0, and a set that reaches out of it has a split that f cables cross at most
--   Shed cs part floor              each part has its floor
--   Shear cs S f m side             a side by which a part S with the floor f may be shed at m: no more than m cables cross it, and m is f or ties S
--   Turn part floor p q f side ..   the devices of part p on the true side become part q, which was nowhere; p and q get the floor f
--   MarkedApart cs part mark        each cable between two parts has its mark
--   Marking cs S m side ..          each cable between the two sides of the set S is marked m, and the others are left
--   Singles part                    every part is a single device
--   Numbered part n                 the parts are 0 to n - 1, each of some device
use Rattle.std.specs.Prelude.{◌≡◌, ℕ, ◌<◌, ◌≤◌, Bool, true, false, cond, List, Some, ◌≢◌}
use Rattle.std.specs.List.{slice_get}
use Rattle.network.specs.Sets.{DeviceSet, Split, WeakSplit, Tied, crosses, crossings}
use Rattle.network.specs.Lists.{Mark}
use Rattle.network.specs.declared.cable.Cable.{Cable}
pub use Rattle.network.specs.Sheets.{inside}

pub record Over (cs : List Cable) (part : ℕ → ℕ) (p k : ℕ) : Type 0 where
  pub set : ℕ → Bool
  pub devices : DeviceSet set
  pub all : (d : ℕ) → d < 128 → part d ≡ p → set d ≡ true
  pub tied : Tied cs set k

pub record Floored (cs : List Cable) (part : ℕ → ℕ) (p f : ℕ) : Type 0 where
  pub held : 0 < f → Over cs part p f
  pub weak : (S : ℕ → Bool) → DeviceSet S → (x y : ℕ) → S x ≡ true → S y ≡ true → part x ≡ p → (part y ≢ p) → WeakSplit cs S f

abbrev pub Shed : List Cable → (part floor : ℕ → ℕ) → Type 0
Shed cs part floor = (d : ℕ) → d < 128 → Floored cs part (part d) (floor (part d))

-- a side that no more than f cross will do at m = f, and the least cut c at the greater of f and c
pub record Shear (cs : List Cable) (S : ℕ → Bool) (f m : ℕ) (side : ℕ → Bool) : Type 0 where
  pub split : Split S side
  pub few : crossings cs S side ≤ m
  pub above : f ≤ m
  pub tied : f < m → Tied cs S m

pub record Turn (part floor : ℕ → ℕ) (p q f : ℕ) (side : ℕ → Bool) (part' floor' : ℕ → ℕ) : Type 0 where
  pub fresh : (d : ℕ) → d < 128 → part d ≢ q
  pub gone : (d : ℕ) → d < 128 → part d ≡ p → side d ≡ true → part' d ≡ q
  pub left : (d : ℕ) → d < 128 → part d ≡ p → side d ≡ false → part' d ≡ p
  pub same : (d : ℕ) → d < 128 → (part d ≢ p) → part' d ≡ part d
  pub floor_p : floor' p ≡ f
  pub floor_q : floor' q ≡ f
  pub floors : (r : ℕ) → (r ≢ p) → (r ≢ q) → floor' r ≡ floor r

abbrev pub MarkedApart : List Cable → (part mark : ℕ → ℕ) → Type 0
MarkedApart cs part mark = (i : ℕ) (c : Cable) → slice_get cs i ≡ Some c → (part c.a ≢ part c.b) → Mark cs c (mark i)

abbrev pub Marking : List Cable → (S : ℕ → Bool) (m : ℕ) (side : ℕ → Bool) (mark mark' : ℕ → ℕ) → Type 0
Marking cs S m side mark mark' = (i : ℕ) (c : Cable) → slice_get cs i ≡ Some c → mark' i ≡ cond (crosses S side c) m (mark i)

abbrev pub Singles : (part : ℕ → ℕ) → Type 0
Singles part = (x y : ℕ) → x < 128 → y < 128 → part x ≡ part y → x ≡ y

pub record Numbered (part : ℕ → ℕ) (n : ℕ) : Type 0 where
  pub low : (d : ℕ) → d < 128 → part d < n
  pub used : (r : ℕ) → r < n → (d : ℕ) × (d < 128) × (part d ≡ r)
