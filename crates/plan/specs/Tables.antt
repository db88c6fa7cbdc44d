-- What a closed plan stores. Assumes nothing.
--   rows_of t         the rows of a table in order of their places
--   table_cables t    their cables
--   closed_cables c   the cables that a closed plan stores, in order of their places
--   marked_at cs i    the cable at place i with its mark, the strength of the list of its two ends; absent past the last
use Rattle.std.specs.Prelude.{ℕ, List, Option}
use Rattle.std.specs.Option.{option_map}
use Rattle.std.specs.List.{slice_get}
use Rattle.network.specs.Figures.{strength_of}
use Rattle.network.specs.Lists.{ends}
use Rattle.network.specs.declared.cable.Cable.{Cable}
use Rattle.network.specs.declared.cable.MarkedCable.{MarkedCable}
use Rattle.plan.specs.Rows.{cables_in}
use Rattle.plan.specs.declared.plan.Closed.{Closed}
use Rattle.plan.specs.declared.table.Table.{Table}

abbrev pub rows_of : Table → List MarkedCable
rows_of t = t.rows.items

abbrev pub table_cables : Table → List Cable
table_cables t = cables_in (rows_of t)

abbrev pub closed_cables : {X : Type 0} → Closed X → List Cable
closed_cables c = table_cables c.table

abbrev pub with_mark : List Cable → Cable → MarkedCable
with_mark cs c = record { cable = c; mark = strength_of cs (ends c) }

abbrev pub marked_at : List Cable → ℕ → Option MarkedCable
marked_at cs i = option_map (with_mark cs) (slice_get cs i)
