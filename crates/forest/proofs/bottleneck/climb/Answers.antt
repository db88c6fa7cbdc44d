use Rattle.std.proofs.Common.{◌<◌, ◌∙◌, arith}
use Rattle.forest.proofs.Climbs.{climbed_none, climbed_more, climbed_found, climbed_all}
use Rattle.forest.proofs.bottleneck.climb.Goals as goal

pub loop-place-init : goal.loop-place-init
loop-place-init g c = climbed_none c.requires.several c.own_labels-labels.ensures.size c.own_labels-labels.ensures.own

pub returns-then-one_label : goal.returns-then-one_label
returns-then-one_label g c =
    let k = c.loop-place.place-index in
    let below : k < c.args.forest.now.count = omega (arith, c.places-place-items.ensures.len) in
    climbed_found g.met.E.Grade.Grade.order (g.E.Graded.lawful c.args.edges.now) c.requires.spans c.requires.several c.loop-place.invariant
    below _ (c.in_ok-found.ensures.0 ∙ c.places-place-items.ensures.each k below) c.in_ok-found.ensures.1 _ c.merge.ensures c.if-one_label.ensures

pub loop-place-preserved : goal.loop-place-preserved
loop-place-preserved g c =
    let k = c.loop-place.place-index in
    let below : k < c.args.forest.now.count = omega (arith, c.places-place-items.ensures.len) in
    climbed_more g.met.E.Grade.Grade.order (g.E.Graded.lawful c.args.edges.now) c.requires.spans c.requires.several c.loop-place.invariant
    below _ (c.in_ok-found.ensures.0 ∙ c.places-place-items.ensures.each k below) c.in_ok-found.ensures.1 _ c.merge.ensures c.if-one_label.ensures

pub returns : goal.returns
returns g c = climbed_all g.met.E.Grade.Grade.order (g.E.Graded.lawful c.args.edges.now) c.requires.spans c.requires.several c.loop-place.invariant (omega (arith, c.places-place-items.ensures.len))
