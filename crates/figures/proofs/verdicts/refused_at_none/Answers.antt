use Rattle.std.proofs.Common.{◌≡◌, [], ◌∷◌, refl, ap, ◌∙◌, subst, inl, arith}
use Rattle.network.specs.declared.refusal.Refusal.TheVariants.{PartLeadsOut}
use Rattle.houses.specs.Sheets.{cables_of}
use Rattle.plan.specs.Judging.{Judges}
use Rattle.plan.specs.Tables.{closed_cables}
use Rattle.figures.specs.CutSheets.{twenty_alone}
use Rattle.figures.specs.Rigs.{example_sheet}
use Rattle.figures.proofs.JudgeTests.{verdict, refused_by_fault}
use Rattle.figures.proofs.verdicts.refused_at_none.Goals as goal

-- one cable leads from part 0 to part 1
pub returns : goal.returns
returns c =
    let cs = closed_cables c.closed_over.result in
    let present : cs ≡ example_sheet = c.closed_over.ensures ∙ ap cables_of c.example_sheet.ensures in
    let judged : Judges cs (20 ∷ []) 0 twenty_alone c.judge.result = subst (λ bs. Judges cs (20 ∷ []) 0 bs c.judge.result) c.twenty_alone.ensures c.judge.ensures in
    record {
      figure = verdict example_sheet (20 ∷ []) 0 twenty_alone c.judge.result cs present judged refl;
      answer = refused_by_fault example_sheet (20 ∷ []) 0 twenty_alone c.judge.result cs present judged refl 0 PartLeadsOut (omega arith) (omega arith, λ q h. absurd (omega arith), inl (refl, omega arith));
    }
