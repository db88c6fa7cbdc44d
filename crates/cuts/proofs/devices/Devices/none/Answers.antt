use Rattle.cuts.proofs.Membership.{held_none}
use Rattle.cuts.proofs.devices.Devices.none.Goals as goal

pub returns : goal.returns
returns c = held_none
