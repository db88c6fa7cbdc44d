use Rattle.std.proofs.Common.{is_ok, sym, ap, ◌∙◌}
use Rattle.cuts.proofs.Pushing.{lawful_more, few_more, passed_lawful}
use Rattle.cuts.proofs.rig.Rig.push.Goals as goal

pub invariant_of-self : goal.invariant_of-self
invariant_of-self c =
    let lawful = passed_lawful c.args.cable c.check.result c.check.ensures (sym c.map_err.ensures.variant ∙ ap is_ok c.in_ok-map_err.was) in
    record {
      few = few_more _ c.args.cable _ c.try_push.result c.try_push.ensures.variant c.try_push.ensures.len c.try_push.ensures.err c.args.self.now.few;
      lawful = lawful_more _ _ _ c.try_push.result c.try_push.ensures.ok c.try_push.ensures.err lawful c.args.self.now.lawful;
    }
