use Rattle.std.proofs.Common.{arith}
use Rattle.forest.proofs.Reaches.{taken_none, taken_all}
use Rattle.forest.proofs.reach.labels_of.Goals as goal

pub loop-place-init : goal.loop-place-init
loop-place-init g c =
    let s = c.args.edges.now in
    taken_none g.E.Grade.Grade.over (g.E.Graded.cables s) (g.E.Graded.grade s) c.args.floor c.own_labels-labels.result c.own_labels-labels.ensures.size c.own_labels-labels.ensures.own

pub returns : goal.returns
returns g c =
    let s = c.args.edges.now in
    taken_all g.E.Grade.Grade.over (g.E.Graded.cables s) (g.E.Graded.grade s) c.args.floor c.loop-place.labels c.loop-place.place (omega (arith, c.count-place-end.ensures)) c.loop-place.invariant
