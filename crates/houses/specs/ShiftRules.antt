-- A shift keeps the house rules. Assumes nothing.
use Rattle.std.specs.Prelude.{ℕ, ◌+◌, ◌%◌, ◌<◌, ◌≤◌, ◌≢◌, List, map, length}
use Rattle.std.proofs.Common.{arith}
use Rattle.std.proofs.lemmas.List.{length-map}
use Rattle.network.specs.Cables.{LawfulCable, Lawful}
use Rattle.network.specs.declared.cable.Cable.{Cable}
use Rattle.houses.specs.Shifts.{shifted}
use Rattle.network.proofs.ListPlaces.{lawful_map}

lawful_one : (by : ℕ) (c : Cable) → LawfulCable c → LawfulCable (shifted by c)
lawful_one by c h = (omega arith, omega arith, apart c.a c.b h.0 h.1 h.2, h.3, h.4)
  where
    apart : (a b : ℕ) → a < 128 → b < 128 → a ≢ b → (a + by) % 128 ≢ (b + by) % 128
    apart a b p q ne e = ne (omega arith)

pub few_shifted : (by : ℕ) (cs : List Cable) → length cs ≤ 256 → length (map (shifted by) cs) ≤ 256
few_shifted by cs h = omega (arith, length-map cs (shifted by))

pub lawful_shifted : (by : ℕ) (cs : List Cable) → Lawful cs → Lawful (map (shifted by) cs)
lawful_shifted by cs h = lawful_map (shifted by) (lawful_one by) cs h
