use Rattle.std.proofs.Common.{◌≤◌, length, arith}
use Rattle.cuts.proofs.Membership.{held_low}
use Rattle.cuts.proofs.Merging.{merging_none, merging_lower, merging_more, merging_all}
use Rattle.cuts.proofs.adjacency.weakest_split.Goals as goal

pub loop-best-init : goal.loop-best-init
loop-best-init c =
    let l = c.lightest_group.ensures in
    let s = c.split_of-best.ensures in
    (c.requires.two, λ v h. omega (arith, s.crossings, l.least v h), merging_none _ _ _ _ _ _ c.requires.two l s.crossings s.side c.requires.numbered (held_low c.args.set.now))

pub returns-then-len-lt2 : goal.returns-then-len-lt2
returns-then-len-lt2 c = merging_all _ _ _ _ (merging_more _ _ _ _ c.loop-best.invariant.2 _ c.requires.ends c.coarser-groups.ensures) c.args.floor (omega (arith, c.if-len-lt2.true, c.len.ensures))

pub loop-best-preserved-then-light-best : goal.loop-best-preserved-then-light-best
loop-best-preserved-then-light-best c =
    let two : 2 ≤ length c.coarser-groups.result.reps.items = omega (arith, c.if-len-lt2.false, c.len.ensures) in
    let l = c.lightest_group-light.ensures in
    let s = c.split_of-best-then-light-best.ensures in
    (two, λ v h. omega (arith, s.crossings, l.least v h), merging_lower _ _ _ _ _ _ two l s.crossings s.side _ (merging_more _ _ _ _ c.loop-best.invariant.2 _ c.requires.ends c.coarser-groups.ensures) (omega (arith, c.if-light-best.true)))

pub loop-best-preserved : goal.loop-best-preserved
loop-best-preserved c = (
  omega (arith, c.if-len-lt2.false, c.len.ensures),
  λ v h. omega (arith, c.if-light-best.false, c.lightest_group-light.ensures.least v h),
  merging_more _ _ _ _ c.loop-best.invariant.2 _ c.requires.ends c.coarser-groups.ensures,
)
