use Rattle.std.proofs.Common.{[], ◌∷◌, refl, ap, ◌∙◌}
use Rattle.network.specs.Figures.{numbers}
use Rattle.houses.specs.Sheets.{cables_of}
use Rattle.plan.specs.Tables.{closed_cables}
use Rattle.figures.specs.Rigs.{three_ways}
use Rattle.figures.proofs.SheetTests.{parts}
use Rattle.figures.proofs.Telling.{figure_tells}
use Rattle.figures.proofs.lists.three_separate_ways.Goals as goal

pub returns : goal.returns
unfolding numbers
returns c = figure_tells three_ways 0 (1 ∷ []) 2 (0 ∷ 1 ∷ 2 ∷ 3 ∷ 4 ∷ []) (parts 1 ((2 ∷ []) ∷ (3 ∷ []) ∷ (4 ∷ []) ∷ (0 ∷ []) ∷ (1 ∷ []) ∷ [])) refl refl refl refl
    (closed_cables c.closed_over.result) (c.closed_over.ensures ∙ ap cables_of c.three_ways.ensures)
    c.ask.result c.ask.ensures.strength c.ask.ensures.group
