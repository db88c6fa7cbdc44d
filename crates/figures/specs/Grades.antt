-- How the two yardsticks grade a run, and when a length reaches another. Assumes nothing.
--   copper n, fibre n   a run of n metres
--   metres n            a length of n metres, as a grade
--   plain r             the plain yardstick's grade of a run: the run itself
--   by_length r         the length yardstick's grade of a run
--   shorter a b         the length a reaches the length b
use Rattle.std.specs.Prelude.{ℕ, Bool, nat_le}
use Rattle.network.specs.declared.cable.Run.{Run}
use Rattle.network.specs.declared.cable.Medium.TheVariants.{Copper, Fibre}
use Rattle.forest.specs.declared.grade.Metres.{Metres}

abbrev pub copper : ℕ → Run
copper n = record { medium = Copper; length = n }

abbrev pub fibre : ℕ → Run
fibre n = record { medium = Fibre; length = n }

abbrev pub metres : ℕ → Metres
metres n = record { 0 = n }

abbrev pub plain : Run → Run
plain r = r

abbrev pub by_length : Run → Metres
by_length r = metres r.length

abbrev pub shorter : Metres → Metres → Bool
shorter a b = nat_le a.0 b.0
