use Rattle.std.proofs.Common.{◌≡◌, eqb, count_by, rules}
use Rattle.plan.proofs.Faults.{lone_count}
use Rattle.plan.proofs.judging.is_lone.Goals as goal

pub returns : goal.returns
returns c =
    let e : c.count.result ≡ count_by (λ x. eqb x c.args.part) c.args.parts.now = search rules in
    lone_count c.args.parts.now c.args.part c.told-parts c.count.result e
