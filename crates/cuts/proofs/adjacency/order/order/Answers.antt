use Rattle.std.proofs.Common.{◌+◌, ◌<◌, false, get_or, replicate, set, sym, refl, ap, ◌∙◌, subst, arith}
use Rattle.cuts.specs.Orders.{flags}
use Rattle.cuts.specs.Phases.{label_in, links_in, count_in}
use Rattle.cuts.proofs.Placing.{Placing, lefts, placing_none, placing_more, placing_next, placing_all}
use Rattle.cuts.proofs.adjacency.order.order.Goals as goal

pub loop-label-init : goal.loop-label-init
loop-label-init c =
    let p = c.args.phase.now in
    subst (λ ps. Placing (label_in p) (links_in p) (lefts (replicate 128 2048) (count_in p)) (replicate 128 2048) ps (count_in p)) (sym c.new-places.ensures) (placing_none _ _ _ p.groups.now.fits)

-- one turn
turn : (c : goal.After-add_row)
    → Placing (label_in c.args.phase.now) (links_in c.args.phase.now) (lefts c.add_row.new.w (count_in c.args.phase.now)) c.add_row.new.w c.push.new.self.items (count_in c.args.phase.now)
    × (flags (lefts c.add_row.new.w (count_in c.args.phase.now)) < flags (lefts c.loop-label.w (count_in c.args.phase.now)))
turn c =
    let p = c.args.phase.now in
    let low : c.in-Some.label < count_in p = omega (arith, c.in-Some.ensures.0, c.len-n.ensures) in
    let more = placing_more _ _ _ _ _ _ p.links.now.few c.loop-label.invariant c.in-Some.label _ c.add_row.new.w refl low c.in-Some.ensures.1
    (λ d h. c.in-Some.ensures.2 d (omega (arith, h, c.len-n.ensures))) (omega (arith, c.in-Some.ensures.1))
    (λ d h. c.add_row.ensures d h ∙ ap (λ z. get_or (set c.loop-label.w c.in-Some.label 0) d 0 + z) (c.requires c.in-Some.label d (omega (arith, low, p.groups.now.fits)) h)) c.add_row.array_long in
    placing_next _ _ _ _ _ _ p.links.now.few c.loop-label.invariant _ c.push.new.self.items c.add_row.new.w low c.in-Some.ensures.1
    (subst (λ ps. Placing (label_in p) (links_in p) (set (lefts c.loop-label.w (count_in p)) c.in-Some.label false) c.add_row.new.w ps (count_in p)) (sym c.push.ensures.items) more)

pub loop-label-preserved : goal.loop-label-preserved
loop-label-preserved c = (turn c).0

pub loop-label-smaller : goal.loop-label-smaller
loop-label-smaller c = (turn c).1

pub returns : goal.returns
returns c = placing_all _ _ _ _ _ _ c.args.phase.now.links.now.few c.loop-label.invariant (λ k h. c.in_default.ensures k (omega (arith, h, c.len-n.ensures)))
