use Rattle.std.proofs.Common.{arith}
use Rattle.cuts.specs.Rigs.{rig_cables}
use Rattle.marks.specs.State.{number}
use Rattle.marks.proofs.Turns.{found_inside, uncut_lone, done_more, state_few}
use Rattle.marks.proofs.parts.Parts.split_up.Goals as goal

pub shed-requires-clause-found : goal.shed-requires-clause-found
shed-requires-clause-found g c = found_inside _ c.loop-cut.self.part c.args.p _ _ c.loop-cut.set _ c.loop-cut.invariant.1 c.in-Some.ensures.1

pub loop-cut-smaller : goal.loop-cut-smaller
loop-cut-smaller g c =
    let s = c.shed.new.self in
    omega (arith, c.shed.ensures.more, state_few (rig_cables c.args.rig.now) s.part s.floor s.marks s.count c.shed.ensures.split.state)

pub returns : goal.returns
returns g c =
    let l = c.loop-cut in
    record { state = l.invariant.0.state; done = done_more (number l.self.part) c.args.p l.invariant.0.done (uncut_lone l.self.part c.args.p l.set l.invariant.1 c.in_default.ensures) }
