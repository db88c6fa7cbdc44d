use Rattle.cuts.proofs.Flooring.{least_cut}
use Rattle.cuts.proofs.finder.least_cut.Goals as goal

pub returns : goal.returns
returns g c = least_cut _ _ c.find.result c.find.ensures
