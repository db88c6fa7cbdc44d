use Rattle.forest.proofs.Climbs.{poorest_unique}
use Rattle.forest.proofs.bottleneck.poorest_unique.Goals as goal

pub returns : goal.returns
returns g c = poorest_unique g.met.G.Grade.order
