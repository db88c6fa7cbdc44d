use Rattle.std.proofs.Common.{◌≡◌, ℕ, ◌<◌, ◌&&◌, eqb, ltb, List, [], get_or, replicate, ap, ◌∙◌, subst, arith}
use Rattle.std.proofs.lemmas.List.{get_or-replicate}
use Rattle.cuts.specs.Links.{flagged}
use Rattle.cuts.proofs.Pairing.{fused_by_pairs, fused_less}
use Rattle.cuts.proofs.Phases.{last_least}
use Rattle.cuts.proofs.adjacency.fusion.shrink.Goals as goal

pub add_links-requires : goal.add_links-requires
add_links-requires c = record { empty = λ y u hy hu. ap (λ r. get_or r u 0) (get_or-replicate {A = List ℕ} 128 y (replicate 128 0) [] hy) ∙ get_or-replicate {A = ℕ} 128 u 0 0 hu }

pub returns-then-len : goal.returns-then-len
returns-then-len c =
    let p = c.args.phase.now in
    fused_less _ _ _ _ _ _ _ _ (last_least _ _ _ _ _ c.order.ensures _ (λ d h. p.groups.now.numbered d h (omega (arith, p.two))) (omega (arith, p.two)) p.least) c.fuse-fused.ensures

pub returns : goal.returns
returns c =
    let p = c.args.phase.now in
    fused_by_pairs _ _ _ _ _ _ _ _ _ _ p.groups.now.fits p.two c.pair_up-to.ensures.moved
    (subst (λ n. (d : ℕ) → d < 128 → flagged c.roots.result d ≡ (ltb d n && eqb (get_or c.pair_up-to.result d 0) d)) c.len-n.ensures c.roots.ensures)
    c.number-paired.ensures c.relabel.ensures (omega (arith, c.if-len.false, c.len-2.ensures.value, c.len-3.ensures.value, c.fuse-fused.ensures.few))
