use Rattle.std.proofs.Common.{◌≡◌, ℕ, [], ◌∷◌, sym, refl, ap, ◌∙◌, inr, ⊎_elim, arith}
use Rattle.network.specs.declared.refusal.Refusal.TheVariants.{PartHoldsList}
use Rattle.network.proofs.Members.{only}
use Rattle.plan.specs.Judging.{part_of, Small, Judges}
use Rattle.houses.specs.Sheets.{cables_of}
use Rattle.plan.specs.Tables.{closed_cables}
use Rattle.figures.specs.CutSheets.{one_part}
use Rattle.figures.specs.Rigs.{example_sheet}
use Rattle.figures.proofs.JudgeTests.{verdict, refused_by_fault}
use Rattle.figures.proofs.verdicts.refused_in_one_part.Goals as goal

-- part 0 has the listed device, and devices 0 and 1
whole : Small (20 ∷ []) (part_of one_part) 0 → ⊥
whole = ⊎_elim
    (λ (d, m, ne). ne (ap (part_of one_part) (sym (only 20 d m))))
    (λ lone. let e : ◌≡◌ {A = ℕ} 0 1 = lone 0 1 (omega arith) (omega arith) refl refl in omega arith)

pub returns : goal.returns
returns c =
    let cs = closed_cables c.closed_over.result in
    let present : cs ≡ example_sheet = c.closed_over.ensures ∙ ap cables_of c.example_sheet.ensures in
    let judged : Judges cs (20 ∷ []) 1 one_part c.judge.result = c.judge.ensures in
    record {
      figure = verdict example_sheet (20 ∷ []) 1 one_part c.judge.result cs present judged refl;
      answer = refused_by_fault example_sheet (20 ∷ []) 1 one_part c.judge.result cs present judged refl 0 PartHoldsList (omega arith) (omega arith, λ q h. absurd (omega arith), inr (refl, omega arith, whole));
    }
