use Rattle.std.proofs.Common.{arith}
use Rattle.cuts.specs.Rigs.{rig_cables}
use Rattle.marks.specs.State.{number}
use Rattle.marks.proofs.Turns.{done_singles, state_few, all_marked}
use Rattle.marks.proofs.mark_all.Goals as goal

pub loop-p-init : goal.loop-p-init
loop-p-init g c = c.whole-parts.ensures (rig_cables c.args.rig.now)

pub returns-clause-marks : goal.returns-clause-marks
returns-clause-marks g c =
    let l = c.loop-p.parts in
    let cs = rig_cables c.args.rig.now in
    let st = c.loop-p.invariant.state in
    all_marked cs l.part l.floor l.marks l.count st c.args.rig.now.lawful
    (done_singles (number l.part) l.count c.loop-p.p st.parts (omega (arith, state_few cs l.part l.floor l.marks l.count st, c.loop-p-test.false)) c.loop-p.invariant.done)
