use Rattle.std.proofs.Common.{[], ◌∷◌, refl, ap, ◌∙◌}
use Rattle.houses.specs.Sheets.{cables_of}
use Rattle.plan.specs.Tables.{closed_cables}
use Rattle.figures.specs.Grades.{by_length, metres}
use Rattle.figures.specs.Rigs.{example_sheet}
use Rattle.figures.proofs.GradeOrders.{length_laws}
use Rattle.figures.proofs.RunTests.{run_told}
use Rattle.figures.proofs.RunFigures.{metres_needed}
use Rattle.figures.proofs.runs.shorter_round.Goals as goal

pub returns : goal.returns
returns c = record {
  figure = metres_needed;
  answer = run_told length_laws by_length example_sheet (10 ∷ 13 ∷ []) (metres 20) metres_needed refl refl
      (closed_cables c.closed_over.result) (c.closed_over.ensures ∙ ap cables_of c.example_sheet.ensures)
      c.run.result c.run.ensures;
}
