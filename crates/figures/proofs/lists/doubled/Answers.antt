use Rattle.std.proofs.Common.{[], ◌∷◌, refl, ap, ◌∙◌}
use Rattle.network.specs.Figures.{numbers}
use Rattle.houses.specs.Sheets.{cables_of}
use Rattle.plan.specs.Tables.{closed_cables}
use Rattle.figures.specs.Rigs.{two_between}
use Rattle.figures.proofs.SheetTests.{parts}
use Rattle.figures.proofs.Telling.{figure_tells}
use Rattle.figures.proofs.lists.doubled.Goals as goal

pub returns : goal.returns
unfolding numbers
returns c = figure_tells two_between 4 (5 ∷ []) 2 (4 ∷ 5 ∷ []) (parts 1 ((4 ∷ []) ∷ (5 ∷ []) ∷ [])) refl refl refl refl
    (closed_cables c.closed_over.result) (c.closed_over.ensures ∙ ap cables_of c.two_between.ensures)
    c.ask.result c.ask.ensures.strength c.ask.ensures.group
