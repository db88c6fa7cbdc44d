-- The laws of an order of grades, and the order of runs. Assumes nothing.
--   over a b        the grade a reaches the grade b: it is as good or better
--   Laws over       of two grades one reaches the other; what reaches is passed on; grades that reach each other are the same
--   medium_over     fibre over copper; of the same medium, what `tie` says
--   run_over        fibre over copper, and of the same medium the shorter
use Rattle.std.specs.Prelude.{◌≡◌, Bool, true, false, ◌⊎◌, nat_le}
use Rattle.network.specs.declared.cable.Run.{Run}
use Rattle.network.specs.declared.cable.Medium.{Medium}
use Rattle.network.specs.declared.cable.Medium.TheVariants.{Copper, Fibre}

pub record Laws {G : Type 0} (over : G → G → Bool) : Type 0 where
  pub either : (a b : G) → (over a b ≡ true) ⊎ (over b a ≡ true)
  pub chain : (a b c : G) → over a b ≡ true → over b c ≡ true → over a c ≡ true
  pub same : (a b : G) → over a b ≡ true → over b a ≡ true → a ≡ b

abbrev pub medium_over : Medium → Medium → (tie : Bool) → Bool
medium_over Fibre Copper tie = true
medium_over Fibre Fibre tie = tie
medium_over Copper Copper tie = tie
medium_over Copper Fibre tie = false

abbrev pub run_over : Run → Run → Bool
run_over a b = medium_over a.medium b.medium (nat_le a.length b.length)
