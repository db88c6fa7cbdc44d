use Rattle.std.proofs.Common.{[], ◌∷◌, refl, ap, ◌∙◌}
use Rattle.houses.specs.Sheets.{cables_of}
use Rattle.plan.specs.Tables.{closed_cables}
use Rattle.figures.specs.Grades.{plain, fibre}
use Rattle.figures.specs.Rigs.{example_sheet}
use Rattle.figures.proofs.GradeOrders.{run_laws}
use Rattle.figures.proofs.RunTests.{run_told}
use Rattle.figures.proofs.RunFigures.{fibre_needed}
use Rattle.figures.proofs.runs.fibre_between.Goals as goal

pub returns : goal.returns
returns c = record {
  figure = fibre_needed;
  answer = run_told run_laws plain example_sheet (10 ∷ 13 ∷ []) (fibre 300) fibre_needed refl refl
      (closed_cables c.closed_over.result) (c.closed_over.ensures ∙ ap cables_of c.example_sheet.ensures)
      c.run.result c.run.ensures;
}
