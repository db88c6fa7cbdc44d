use Rattle.cuts.proofs.Membership.{held_all}
use Rattle.cuts.proofs.devices.Devices.all.Goals as goal

pub returns : goal.returns
returns c = held_all
