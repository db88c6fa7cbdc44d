use Rattle.std.proofs.Common.{sym, subst}
use Rattle.forest.specs.Forests.{place_of}
use Rattle.forest.proofs.Growths.{Grown, grown_none, grown_more, grown_room, grown_all}
use Rattle.forest.proofs.growth.grow.Goals as goal

pub loop-best-init : goal.loop-best-init
loop-best-init g c = grown_none (g.E.Graded.lawful c.args.edges.now) c.bare-forest.ensures c.own_labels-labels.ensures.size c.own_labels-labels.ensures.own

pub keep-requires : goal.keep-requires
keep-requires g c = grown_room g.met.E.Grade.Grade.order (g.E.Graded.lawful c.args.edges.now) c.loop-best.invariant _ c.in-Some.ensures _ c.merge.ensures

pub loop-best-preserved : goal.loop-best-preserved
loop-best-preserved g c =
    let s = c.args.edges.now in
    let f = c.keep.new.self in
    subst (λ n. Grown g.E.Grade.Grade.over (g.E.Graded.cables s) (g.E.Graded.grade s) (place_of f) n c.merge.new.labels) (sym c.keep.ensures.longer)
    (grown_more g.met.E.Grade.Grade.order (g.E.Graded.lawful s) c.loop-best.invariant _ c.in-Some.ensures _ c.merge.ensures (place_of f) c.keep.ensures.last c.keep.ensures.others)

pub returns : goal.returns
returns g c = grown_all g.met.E.Grade.Grade.order (g.E.Graded.lawful c.args.edges.now) c.loop-best.invariant c.in_default.ensures
