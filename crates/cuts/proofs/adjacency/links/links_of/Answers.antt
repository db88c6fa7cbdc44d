use Rattle.std.proofs.Common.{◌+◌, take, sym, refl, ap, ◌∙◌, subst}
use Rattle.cuts.specs.Members.{set_of}
use Rattle.cuts.specs.Links.{Keeps}
use Rattle.cuts.proofs.Keeping.{keeps_yes, keeps_no}
use Rattle.cuts.proofs.adjacency.links.links_of.Goals as goal
use Rattle.cuts.proofs.adjacency.links.links_of.Goals.{then-both_ends_in, else-both_ends_in}

pub loop-c-preserved : goal.loop-c-preserved
loop-c-preserved c =
    let same = c.cables-c-items.ensures in
    let links = subst (λ cs. Keeps (take c.loop-c.c-index cs) (set_of c.args.set.now) c.loop-c.list.items) (sym same) c.loop-c.invariant in
    subst (λ cs. Keeps (take (c.loop-c.c-index + 1) cs) (set_of c.args.set.now) c.if-both_ends_in.list.items) same (
    elim c.if-both_ends_in.branch [
      | then-both_ends_in w ↦ subst (λ ls. Keeps (take (c.loop-c.c-index + 1) c.cables-c-items.result.now) (set_of c.args.set.now) ls)
          (sym w.push.ensures.items ∙ ap (λ v. v.items) (sym w.list-is))
          (keeps_yes _ _ _ _ _ c.loop-c-test.true links _ (sym c.both_ends_in.ensures ∙ w.if-both_ends_in.true) refl refl)
      | else-both_ends_in w ↦ subst (λ v. Keeps (take (c.loop-c.c-index + 1) c.cables-c-items.result.now) (set_of c.args.set.now) v.items) (sym w.list-is)
          (keeps_no _ _ _ _ _ c.loop-c-test.true links (sym c.both_ends_in.ensures ∙ w.if-both_ends_in.false))
    ])
