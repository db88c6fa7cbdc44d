use Rattle.std.proofs.Common.{◌<◌, length, arith}
use Rattle.cuts.proofs.adjacency.lightest_group.Goals as goal

pub returns : goal.returns
returns c =
    let g = c.args.groups.now in
    let low : c.lightest-label.result < length g.reps.items = omega (arith, c.lightest-label.ensures.low, c.len.ensures) in
    record {
      low = low;
      is = c.all_degrees-degrees.ensures c.lightest-label.result (omega (arith, low, g.fits));
      least = λ v h. omega (arith, c.lightest-label.ensures.least v (omega (arith, h, c.len.ensures)), c.all_degrees-degrees.ensures v (omega (arith, h, g.fits)));
    }
