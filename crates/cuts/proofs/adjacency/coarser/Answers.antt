use Rattle.std.proofs.Common.{sym, subst, arith}
use Rattle.cuts.specs.Fusions.{Fused}
use Rattle.cuts.specs.Phases.{label_in, links_in, count_in}
use Rattle.cuts.proofs.adjacency.coarser.Goals as goal

pub returns : goal.returns
returns c =
    let p = c.args.phase.now in
    let f = c.shrink-fused.result in
    record {
      into = f.into;
      firsts = f.firsts.items;
      fused = subst (λ n. Fused (label_in p) (links_in p) (count_in p) p.best p.best f.into f.firsts.items n) (sym c.first_reps.ensures.len) c.shrink-fused.ensures;
      labels_are = c.relabel.ensures;
      reps_are = λ y h. c.first_reps.ensures.each y (omega (arith, h, c.first_reps.ensures.len));
    }
