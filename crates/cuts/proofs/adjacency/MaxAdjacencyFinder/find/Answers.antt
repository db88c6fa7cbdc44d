use Rattle.std.proofs.Common.{length, subst, arith}
use Rattle.cuts.specs.Links.{flagged}
use Rattle.cuts.specs.Groups.{Numbered}
use Rattle.cuts.proofs.Keeping.{finds_from}
use Rattle.cuts.proofs.Membership.{held_low}
use Rattle.cuts.proofs.Merging.{two_devices}
use Rattle.cuts.proofs.adjacency.MaxAdjacencyFinder.find.Goals as goal

pub returns : goal.returns
returns c =
    let g = c.number-groups.result in (
      two_devices _ g.labels g.reps.items (length g.reps.items) (subst (λ xs. Numbered (flagged xs) g.labels g.reps.items (length g.reps.items)) c.flags.ensures c.number-groups.ensures) (held_low c.args.set.now) (omega (arith, c.if-len-lt2.false, c.len.ensures)),
      finds_from _ _ _ _ _ _ _ (omega arith) c.links_of.ensures c.weakest_split.ensures,
    )
