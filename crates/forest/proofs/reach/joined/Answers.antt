use Rattle.std.proofs.Common.{◌<◌, sym, ◌∙◌, arith}
use Rattle.std.proofs.lemmas.Bool.{ltb-true, ltb-false}
use Rattle.cuts.specs.Members.{set_of}
use Rattle.forest.proofs.Reaches.{reaching_ranged, labelled_linked, unlinked}
use Rattle.forest.proofs.reach.joined.Goals as goal

pub returns-then-out_of_range : goal.returns-then-out_of_range
returns-then-out_of_range g c =
    let s = c.args.edges.now in
    λ d h. unlinked (reaching_ranged g.E.Grade.Grade.over (g.E.Graded.cables s) (g.E.Graded.grade s) c.args.floor (g.E.Graded.lawful s))
    c.args.from d (ltb-true 127 c.args.from (sym c.out_of_range.ensures ∙ c.if-out_of_range.true)) h (set_of c.none.result d) (c.none.ensures d)

pub returns : goal.returns
returns g c =
    let low : c.args.from < 128 = omega (arith, ltb-false 127 c.args.from (sym c.out_of_range.ensures ∙ c.if-out_of_range.false)) in
    λ d h. labelled_linked c.labels_of-labels.ensures c.args.from d low h (set_of c.labelled.result d) (c.labelled.ensures d h)
