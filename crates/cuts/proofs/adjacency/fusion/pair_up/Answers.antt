use Rattle.std.proofs.Common.{ℕ, ◌<◌, length, get_or, sym, ◌∙◌, arith}
use Rattle.cuts.proofs.Pairing.{pairing_more, pairing_at}
use Rattle.cuts.proofs.adjacency.fusion.pair_up.Goals as goal
use Rattle.cuts.proofs.adjacency.fusion.pair_up.Goals.{then-may_pair, else-may_pair}

pub loop-l-preserved : goal.loop-l-preserved
loop-l-preserved c =
    let g = c.args.phase.now.groups.now in
    let below : (d : ℕ) → d < 128 → get_or g.labels d 0 < length g.reps.items = λ d h. g.numbered d h (omega (arith, c.args.phase.now.two)) in
    let l = c.l-item.result in
    elim c.if-may_pair.branch [
      | then-may_pair w ↦ pairing_at _ _ _ _ _ _ _ _ w.to-is w.used-is
          (pairing_more _ _ _ _ _ _ c.args.m.now c.all_degrees-degrees.result (get_or g.labels l.a 0) (get_or g.labels l.b 0) g.fits below (below _ l.low) (below _ l.high)
          (c.all_degrees-degrees.ensures _ (g.low _ l.low)) (omega (arith, c.all_degrees-degrees.ensures _ (g.low _ l.low), c.args.phase.now.least _ (below _ l.low)))
          (c.requires _ _ (g.low _ l.low) (g.low _ l.high)) (sym c.may_pair.ensures ∙ w.if-may_pair.true) c.loop-l.invariant)
      | else-may_pair w ↦ pairing_at _ _ _ _ _ _ _ _ w.to-is w.used-is c.loop-l.invariant
    ]
