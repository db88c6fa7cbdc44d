use Rattle.std.proofs.Common.{rules}
use Rattle.forest.proofs.Severals.{one_label_all}
use Rattle.forest.proofs.several.one_label.Goals as goal

pub returns : goal.returns
returns c = one_label_all c.args.devices.now c.args.labels.now c.args.one c.requires c.all.result (search rules)
