-- Which cables are lawful. Assumes nothing.
--   above d        d is no device: it is above 127
--   reach m        the longest run of a medium, in metres
--   fit_run r      the length of a run lies within 1 and the reach of its medium, as a test
--   LawfulRun r    the same as a statement
--   LawfulCable c  its ends are two different devices, and its run is lawful
--   Lawful cs      each cable of the list is lawful
use Rattle.std.specs.Prelude.{◌≡◌, ℕ, ◌<◌, ◌≤◌, Bool, ◌&&◌, ◌≢◌, List, Some, nat_le, nat_lt}
use Rattle.network.specs.declared.cable.Cable.{Cable}
use Rattle.network.specs.declared.cable.Run.{Run}
use Rattle.network.specs.declared.cable.Medium.{Medium}
use Rattle.network.specs.declared.cable.Medium.TheVariants.{Copper, Fibre}
use Rattle.std.specs.List.{slice_get}

abbrev pub above : ℕ → Bool
above d = nat_lt 127 d

abbrev pub reach : Medium → ℕ
reach Copper = 100
reach Fibre = 2000

abbrev pub fit_run : Run → Bool
fit_run r = nat_le 1 r.length && nat_le r.length (reach r.medium)

abbrev pub LawfulCable : Cable → Type 0
LawfulCable c = (c.a < 128) × (c.b < 128) × (c.a ≢ c.b) × (1 ≤ c.run.length) × (c.run.length ≤ reach c.run.medium)

abbrev pub Lawful : List Cable → Type 0
Lawful cs = (k : ℕ) (c : Cable) → slice_get cs k ≡ Some c → LawfulCable c
