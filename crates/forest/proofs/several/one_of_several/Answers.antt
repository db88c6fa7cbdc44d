use Rattle.std.proofs.Common.{rules}
use Rattle.forest.proofs.Severals.{one_of_several}
use Rattle.forest.proofs.several.one_of_several.Goals as goal

pub returns : goal.returns
returns c = one_of_several c.args.devices.now _ (λ x b k. search rules) c.lowest.result c.lowest.ensures c.filter.result c.filter.ensures
