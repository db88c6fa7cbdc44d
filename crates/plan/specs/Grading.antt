-- The rows of a table as graded cables: by their marks, or by their runs. Assumes nothing.
--   mark_of o       the mark of a row, if it is there; else 0
--   mark_at rows i  the mark of the row at the place i
--   run_of o        the run of a cable, if it is there; else one of no length
--   run_at cs i     the run of the cable at the place i
--   few_cables t    a table has 512 cables at most
use Rattle.std.specs.Prelude.{ℕ, ◌≤◌, List, length, Some, None, Option}
use Rattle.std.proofs.Common.{arith}
use Rattle.std.specs.List.{slice_get}
use Rattle.std.proofs.lemmas.List.{length-map}
use Rattle.network.specs.declared.cable.Cable.{Cable}
use Rattle.network.specs.declared.cable.Run.{Run}
use Rattle.network.specs.declared.cable.Medium.TheVariants.{Copper}
use Rattle.network.specs.declared.cable.MarkedCable.{MarkedCable}
use Rattle.plan.specs.Tables.{rows_of, table_cables}
use Rattle.plan.specs.declared.table.Table.{Table}

abbrev pub mark_of : Option MarkedCable → ℕ
mark_of (Some r) = r.mark
mark_of None = 0

abbrev pub mark_at : List MarkedCable → ℕ → ℕ
mark_at rows i = mark_of (slice_get rows i)

abbrev pub run_of : Option Cable → Run
run_of (Some c) = c.run
run_of None = record { medium = Copper; length = 0 }

abbrev pub run_at : List Cable → ℕ → Run
run_at cs i = run_of (slice_get cs i)

pub few_cables : (t : Table) → length (table_cables t) ≤ 512
few_cables t = omega (arith, length-map (rows_of t) (λ r. r.cable), t.few)
