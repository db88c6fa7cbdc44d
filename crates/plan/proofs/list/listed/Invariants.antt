use Rattle.plan.proofs.Listing.{Taken}
use Rattle.plan.proofs.list.listed.Given as goal

abbrev pub invariant-loop-device : goal.invariant-loop-device
invariant-loop-device l = Taken l.devices l.list l.device-index
