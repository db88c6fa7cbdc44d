-- What a figure says of the answers of a plan. Assumes nothing.
--   Tells cs l t k g   over the cables cs the list has the strength k, and its group is the devices that g names, each once; the answers t tell so
use Rattle.std.specs.Prelude.{◌≡◌, ℕ, ◌<◌, cond, List, length, Some, Ok, slice_index}
use Rattle.network.specs.Lists.{member, ListStrength, Group}
use Rattle.network.specs.declared.cable.Cable.{Cable}
use Rattle.figures.specs.declared.told.Told.{Told}

pub record Tells (cs : List Cable) (l : List ℕ) (t : Told) (k : ℕ) (g : List ℕ) : Type 0 where
  pub strong : ListStrength cs l k
  pub together : Group cs l k (member g)
  pub strength : t.strength ≡ Ok (Some k)
  pub group : t.group ≡ Ok (Some (k, length g))
  pub bytes : (d : ℕ) → d < 128 → slice_index t.bytes d ≡ cond (member g d) 1 0
