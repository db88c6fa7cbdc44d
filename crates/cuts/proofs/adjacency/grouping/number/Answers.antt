use Rattle.std.proofs.Common.{length, replicate, sym, ap, ◌∙◌, subst, set}
use Rattle.cuts.specs.Links.{flagged}
use Rattle.cuts.proofs.Numbering.{Numbering, numbering_none, numbering_yes, numbering_no, numbering_at}
use Rattle.cuts.proofs.adjacency.grouping.number.Goals as goal
use Rattle.cuts.proofs.adjacency.grouping.number.Goals.{then-is_in, else-is_in}

pub loop-d-init : goal.loop-d-init
loop-d-init c = subst (λ xs. Numbering (flagged c.args.inside.now) 0 (replicate 128 0) xs (length xs)) (sym c.new-reps.ensures) (numbering_none (flagged c.args.inside.now))

pub loop-d-preserved : goal.loop-d-preserved
loop-d-preserved c =
    elim c.if-is_in.branch [
      | then-is_in w ↦ numbering_at _ _ _ _ _ _ _ (w.labels-is ∙ ap (λ z. set c.loop-d.labels c.loop-d.d z) w.len.ensures.value) (ap (λ v. v.items) w.reps-is ∙ w.push.ensures.items)
          (numbering_yes _ _ _ _ _ c.loop-d.invariant c.loop-d-test.true w.if-is_in.true)
      | else-is_in w ↦ numbering_at _ _ _ _ _ _ _ w.labels-is (ap (λ v. v.items) w.reps-is) (numbering_no _ _ _ _ _ c.loop-d.invariant c.loop-d-test.true w.if-is_in.false)
    ]
