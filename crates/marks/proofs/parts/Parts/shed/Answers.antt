use Rattle.std.proofs.Common.{◌<◌, subst, arith}
use Rattle.cuts.specs.Members.{set_of}
use Rattle.cuts.specs.Rigs.{rig_cables}
use Rattle.marks.specs.Shedding.{inside, Shear, Marking}
use Rattle.marks.specs.State.{number}
use Rattle.marks.proofs.Turns.{inside_is, finds_shear, part_low, room, state_more, done_turn}
use Rattle.marks.proofs.parts.Parts.shed.Goals as goal
use Rattle.marks.proofs.parts.Parts.shed.Goals.{After-max-m}

-- the cut serves to shed
sheared : (c : After-max-m) → Shear (rig_cables c.args.rig.now) (inside (number c.args.self.now.part) c.args.p) (number c.args.self.now.floor c.args.p) c.max-m.result (set_of c.args.cut.now.side)
sheared c = finds_shear _ _ _ _ _ _ c.max-m.ensures c.requires.found

-- there is room for a part more
low : (c : After-max-m) → c.args.self.now.count < 128
low c = room _ _ _ _ _ _ _ _ _ c.requires.split.state (sheared c)

pub bounds-self-self : goal.bounds-self-self
bounds-self-self c = low (goal.at.bounds-self-self c).After-max-m

pub overflow_add-self : goal.overflow_add-self
overflow_add-self c = omega (arith, low (goal.at.overflow_add-self c).After-max-m)

pub returns-clause-split : goal.returns-clause-split
returns-clause-split c =
    let s = c.args.self.now in
    let cs = rig_cables c.args.rig.now in
    let side = set_of c.args.cut.now.side in
    let sh = sheared (goal.at.returns-clause-split c).After-max-m in
    let marking = subst (λ S. Marking cs S c.max-m.result side (number s.marks) (number c.stamp.new.marks)) (inside_is s.part c.args.p c.args.set.now c.requires.set) c.stamp.ensures.marking in
    record {
      state = state_more cs s.part c.move_side.new.part s.floor s.marks c.stamp.new.marks c.args.p s.count c.max-m.result side s.long_floor c.args.rig.now.lawful c.requires.split.state sh
          c.move_side.ensures.parts marking;
      done = done_turn (number s.part) (number c.move_side.new.part) c.args.p s.count side (part_low _ _ _ _ _ _ _ _ _ c.requires.split.state sh) c.move_side.ensures.parts c.requires.split.done;
    }
