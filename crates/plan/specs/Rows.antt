-- Rows of marked cables. Assumes nothing.
--   cables_in rows      their cables, in order
--   Marked rows         each row's mark is the strength of the list of its cable's two ends, over the cables of all rows
--   mark_rows mark cs   cables as rows, the cable at each place i with `mark i`
use Rattle.std.specs.Prelude.{◌≡◌, ℕ, suc, List, [], ◌∷◌, map, Some}
use Rattle.std.specs.List.{slice_get}
use Rattle.network.specs.Lists.{ends}
use Rattle.network.specs.Figures.{strength_of}
use Rattle.network.specs.declared.cable.Cable.{Cable}
use Rattle.network.specs.declared.cable.MarkedCable.{MarkedCable}

abbrev pub cables_in : List MarkedCable → List Cable
cables_in rows = map (λ r. r.cable) rows

abbrev pub Marked : List MarkedCable → Type 0
Marked rows = (i : ℕ) (r : MarkedCable) → slice_get rows i ≡ Some r → r.mark ≡ strength_of (cables_in rows) (ends r.cable)

abbrev pub mark_rows : (ℕ → ℕ) → List Cable → List MarkedCable
mark_rows mark [] = []
mark_rows mark (c ∷ cs) = record { cable = c; mark = mark 0 } ∷ mark_rows (λ i. mark (suc i)) cs
