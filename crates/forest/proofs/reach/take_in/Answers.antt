use Rattle.forest.proofs.Reaches.{taken_past, taken_poor, taken_more}
use Rattle.forest.proofs.reach.take_in.Goals as goal

pub returns-then-reaches : goal.returns-then-reaches
returns-then-reaches g c =
    let s = c.args.edges.now in
    taken_more g.E.Grade.Grade.over (g.E.Graded.cables s) (g.E.Graded.grade s) c.args.floor c.args.labels.now c.args.place c.requires
    c.in-Some.found c.in-Some.ensures.0 c.in-Some.ensures.1 (g.E.Graded.lawful s) c.if-reaches.ensures c.merge.new.labels c.merge.ensures

pub returns-else-reaches : goal.returns-else-reaches
returns-else-reaches g c =
    let s = c.args.edges.now in
    taken_poor g.E.Grade.Grade.over (g.E.Graded.cables s) (g.E.Graded.grade s) c.args.floor c.args.labels.now c.args.place c.requires
    c.in-Some.found c.in-Some.ensures.0 c.in-Some.ensures.1 c.if-reaches.ensures

pub returns-in_default : goal.returns-in_default
returns-in_default g c =
    let s = c.args.edges.now in
    taken_past g.E.Grade.Grade.over (g.E.Graded.cables s) (g.E.Graded.grade s) c.args.floor c.args.labels.now c.args.place c.requires c.in_default.ensures
