use Rattle.std.proofs.Common.{length}
use Rattle.cuts.specs.Links.{label}
use Rattle.cuts.specs.Orders.{labels_of, weights_of}
use Rattle.cuts.proofs.Fusing.{Upon}
use Rattle.cuts.proofs.adjacency.fusion.fuse.Given as goal

abbrev pub invariant-loop-place : goal.invariant-loop-place
invariant-loop-place l = Upon (label l.phase.groups.now.labels) l.phase.links.now.list.items l.phase.best (labels_of l.order.items) (weights_of l.order.items) l.into l.firsts.items l.place-index (length l.firsts.items)
