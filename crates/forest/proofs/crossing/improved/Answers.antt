use Rattle.std.proofs.Common.{rules}
use Rattle.forest.specs.Crossings.{Passed, Improves}
use Rattle.forest.proofs.Searches.{first_in_range}
use Rattle.forest.proofs.Crossings.{beyond_low, next_found}
use Rattle.forest.proofs.crossing.improved.Goals as goal

pub returns : goal.returns
returns g c =
    let s = c.args.edges.now in
    let low = beyond_low g.E.Grade.Grade.over (g.E.Graded.cables s) (g.E.Graded.grade s) c.args.labels.now c.args.best c.requires in
    next_found g.met.E.Grade.Grade.order (g.E.Graded.cables s) (g.E.Graded.grade s) c.args.labels.now c.args.best c.find_map.result c.requires low
    (rw (← c.past.ensures, ← c.count.ensures)
    (first_in_range _ _ (Passed g.E.Grade.Grade.over (g.E.Graded.cables s) (g.E.Graded.grade s) c.args.labels.now c.args.best)
    (Improves g.E.Grade.Grade.over (g.E.Graded.cables s) (g.E.Graded.grade s) c.args.labels.now c.args.best) (λ x r q k. search rules) c.past.result c.count.result c.find_map.result c.find_map.ensures.runs))
