use Rattle.std.proofs.Common.{Err, sym, ap, ◌∙◌, subst}
use Rattle.network.specs.Lists.{member}
use Rattle.network.specs.declared.refusal.Refusal.TheVariants.{TooFewDevices}
use Rattle.plan.specs.Tests.{run_check}
use Rattle.plan.specs.Questions.{RunIs}
use Rattle.plan.specs.Tables.{closed_cables}
use Rattle.plan.proofs.Checking.{gives_err, refused_or, passed_or, named, too_few, enough}
use Rattle.plan.proofs.plan.Closed.run.Goals as goal

pub returns-in_err-ok_or : goal.returns-in_err-ok_or
returns-in_err-ok_or g c =
    let l = c.args.list.now in
    let ok = c.in_ok-devices.ensures in
    let e = c.in_err-ok_or.field-0.0 in
    let few = refused_or _ _ c.one_of_several.result c.one_of_several.ensures TooFewDevices e (sym c.ok_or.ensures.value ∙ c.in_err-ok_or.was) in
    gives_err (RunIs g.Y.Grade.Grade.over g.Y.Yardstick.graded (closed_cables c.args.self.now) (member l)) (run_check l) e c.from_residual-in_err-ok_or.result
    c.from_residual-in_err-ok_or.ensures.1 (too_few c.in_ok-devices.devices l ok.1 ok.0 few.0 ∙ ap Err few.1)

pub returns : goal.returns
returns g c =
    let s = c.in_ok-devices.devices in
    let l = c.args.list.now in
    let ok = c.in_ok-devices.ensures in
    let set = (passed_or _ _ c.one_of_several.result c.one_of_several.ensures TooFewDevices c.in_ok-ok_or.field-0 (sym c.ok_or.ensures.value ∙ c.in_ok-ok_or.was)).0 in (
      enough s l ok.1 ok.0 set,
      subst (λ D. RunIs g.Y.Grade.Grade.over g.Y.Yardstick.graded (closed_cables c.args.self.now) D c.poorest_run.result) (named s l ok.1) c.poorest_run.ensures,
    )
