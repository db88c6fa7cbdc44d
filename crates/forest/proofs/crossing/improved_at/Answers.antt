use Rattle.forest.proofs.Crossings.{improves}
use Rattle.forest.proofs.crossing.improved_at.Goals as goal

pub returns : goal.returns
returns g c =
    improves c.args.labels.now c.args.best c.args.place c.in_ok-found.found c.in_ok-found.ensures.0 c.in_ok-found.ensures.1 c.reached.result c.reached.ensures c.if-labels-found.false
