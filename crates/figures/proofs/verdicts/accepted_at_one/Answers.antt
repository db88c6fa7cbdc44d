use Rattle.std.proofs.Common.{◌≡◌, [], ◌∷◌, refl, ap, ◌∙◌, subst}
use Rattle.network.specs.Figures.{numbers}
use Rattle.houses.specs.Sheets.{cables_of}
use Rattle.plan.specs.Judging.{Judges}
use Rattle.plan.specs.Tables.{closed_cables}
use Rattle.figures.specs.CutSheets.{twenty_alone}
use Rattle.figures.specs.Rigs.{example_sheet}
use Rattle.figures.proofs.JudgeTests.{verdict, accepted_by_test}
use Rattle.figures.proofs.verdicts.accepted_at_one.Goals as goal

pub returns : goal.returns
unfolding numbers
returns c =
    let cs = closed_cables c.closed_over.result in
    let present : cs ≡ example_sheet = c.closed_over.ensures ∙ ap cables_of c.example_sheet.ensures in
    let judged : Judges cs (20 ∷ []) 1 twenty_alone c.judge.result = subst (λ bs. Judges cs (20 ∷ []) 1 bs c.judge.result) c.twenty_alone.ensures c.judge.ensures in
    record {
      figure = verdict example_sheet (20 ∷ []) 1 twenty_alone c.judge.result cs present judged refl;
      answer = accepted_by_test example_sheet (20 ∷ []) 1 twenty_alone c.judge.result cs present judged refl refl;
    }
