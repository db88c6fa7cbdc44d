use Rattle.plan.proofs.Checking.{listed_one}
use Rattle.plan.proofs.plan.Closed.strength.Goals as goal

pub returns : goal.returns
returns g c =
    let l = c.args.list.now in
    let ok = c.in_ok-devices.ensures in
    let x = listed_one l ok.0 in
    (ok.0, c.strength_of.ensures l x.0 ok.1 x.1)
