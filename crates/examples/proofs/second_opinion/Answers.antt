use Rattle.std.proofs.Common.{take, is_ok, sym, ap, ◌∙◌, subst}
use Rattle.plan.specs.Judging.{Judges}
use Rattle.examples.proofs.second_opinion.Goals as goal

pub returns : goal.returns
returns g c = λ same.
    let cut = c.in_ok-strength.ensures in
    let verdict = c.judge-verdict.result in
    let judged = subst (λ cs. Judges cs c.args.list.now c.in_ok-strength.strength (take 128 c.cut.new.buffer) verdict) (sym same) c.judge-verdict.ensures in
    (cut.answer.answer.0, c.is_ok.ensures.value ∙ ap is_ok (cut.accepted verdict judged))
