-- What the marking keeps, over arrays. Assumes nothing.
--   number xs d             the number at d, and 0 past the end
--   moved p q side r        the part r, or q where r is p and the side is true
--   State cs part floor mark n   floors, marks and numbers of the parts are right
--   Holds part p S          the devices of the set S are those of part p
--   Done part p             each part below p has one device at most
--   SplitUp cs s p          the parts s are right, and done below p
use Rattle.std.specs.Prelude.{◌≡◌, ℕ, ◌<◌, Bool, cond, ◌&&◌, List, ◌==◌, slice_index}
use Rattle.network.specs.Sheets.{Lone}
use Rattle.network.specs.declared.cable.Cable.{Cable}
use Rattle.marks.specs.Shedding.{Shed, MarkedApart, Numbered}
use Rattle.marks.specs.declared.parts.Parts.{Parts}

abbrev pub number : List ℕ → ℕ → ℕ
number xs d = slice_index xs d

abbrev pub moved : (p q : ℕ) (side : Bool) (r : ℕ) → ℕ
moved p q side r = cond (r == p && side) q r

pub record State (cs : List Cable) (part floor mark : List ℕ) (n : ℕ) : Type 0 where
  pub shed : Shed cs (number part) (number floor)
  pub marked : MarkedApart cs (number part) (number mark)
  pub parts : Numbered (number part) n

abbrev pub Holds : (part : ℕ → ℕ) (p : ℕ) (S : ℕ → Bool) → Type 0
Holds part p S = (d : ℕ) → d < 128 → S d ≡ (part d == p)

abbrev pub Done : (part : ℕ → ℕ) → ℕ → Type 0
Done part p = (r : ℕ) → r < p → Lone part r

pub record SplitUp (cs : List Cable) (s : Parts) (p : ℕ) : Type 0 where
  pub state : State cs s.part s.floor s.marks s.count
  pub done : Done (number s.part) p
