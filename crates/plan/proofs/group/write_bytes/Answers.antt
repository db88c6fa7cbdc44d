use Rattle.std.proofs.Common.{arith}
use Rattle.cuts.specs.Members.{set_of}
use Rattle.plan.proofs.Bytes.{set_written}
use Rattle.plan.proofs.group.write_bytes.Goals as goal

pub returns : goal.returns
returns c =
    let w = c.write_first.ensures in
    set_written (set_of c.args.devices.now) c.args.buffer.now c.write_first.new.buffer c.loop-d.bytes c.write_first.auto.buffer w.first w.later
    (λ d low. c.loop-d.invariant.1 d (omega arith))
