use Rattle.std.proofs.Common.{◌≡◌, count_by, rules, ◌∙◌}
use Rattle.plan.proofs.Bytes.{flags_size}
use Rattle.plan.proofs.group.count_of.Goals as goal

pub returns : goal.returns
returns c =
    let e : c.count.result ≡ count_by (λ b. b) c.args.devices.now.flags = search rules in
    e ∙ flags_size c.args.devices.now
