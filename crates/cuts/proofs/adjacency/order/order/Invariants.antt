use Rattle.cuts.specs.Orders.{flags}
use Rattle.cuts.specs.Phases.{label_in, links_in, count_in}
use Rattle.cuts.proofs.Placing.{Placing, lefts}
use Rattle.cuts.proofs.adjacency.order.order.Given as goal

abbrev pub invariant-loop-label : goal.invariant-loop-label
invariant-loop-label l = Placing (label_in l.phase) (links_in l.phase) (lefts l.w (count_in l.phase)) l.w l.places.items (count_in l.phase)

abbrev pub decreases-loop-label : goal.decreases-loop-label
decreases-loop-label l = flags (lefts l.w (count_in l.phase))
