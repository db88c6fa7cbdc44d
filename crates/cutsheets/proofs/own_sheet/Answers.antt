use Rattle.std.proofs.Common.{refl, arith}
use Rattle.std.proofs.lemmas.Bool.{false≢true}
use Rattle.cuts.specs.Members.{set_of}
use Rattle.cuts.specs.Rigs.{rig_cables}
use Rattle.cuts.proofs.Membership.{held_low}
use Rattle.marks.specs.Shedding.{inside, Shear}
use Rattle.marks.specs.State.{number}
use Rattle.marks.proofs.Turns.{zeros, uncut_lone}
use Rattle.cutsheets.proofs.Facings.{facing_cut}
use Rattle.cutsheets.proofs.Cores.{core_none, core_low, core_lone, core_more, core_done}
use Rattle.cutsheets.proofs.own_sheet.Given as given
use Rattle.cutsheets.proofs.own_sheet.Goals as goal
use Rattle.cutsheets.proofs.own_sheet.Goals.{After-facing-near}

-- the side that faces the list serves to shed
sheared : (g : given.Over) (c : After-facing-near g)
    → Shear (rig_cables c.args.rig.now) (inside (number c.loop-core.sheet.parts) c.loop-core.core) c.loop-core.sheet.strength c.max.result (set_of c.facing-near.result)
sheared g c = facing_cut _ _ _ _ _ _ _ _ _ c.labelled-all.result c.labelled-all.ensures c.in-Some.ensures.1 c.max.ensures c.facing-near.ensures

pub loop-core-init : goal.loop-core-init
loop-core-init g c = (refl, core_none (rig_cables c.args.rig.now) (set_of c.args.devices.now) _ (held_low c.args.devices.now) (λ d. zeros 128 d))

pub loop-core-preserved : goal.loop-core-preserved
loop-core-preserved g c = (
  c.move_side.ensures.long,
  core_more _ _ _ _ _ _ _ _ c.args.rig.now.lawful c.loop-core.invariant.1 (sheared g (goal.at.loop-core-preserved g c).After-facing-near) c.move_side.ensures.parts
      (set_of c.opposite-far.result) c.opposite-far.ensures (λ m. false≢true (c.if-meets.ensures.1 m)),
)

pub returns-then-meets : goal.returns-then-meets
returns-then-meets g c =
    let s = core_done _ _ _ _ _ _ _ _ c.args.rig.now.lawful c.loop-core.invariant.1 (sheared g (goal.at.returns-then-meets g c).After-facing-near) c.move_side.ensures.parts
    (set_of c.opposite-far.result) c.opposite-far.ensures c.facing-near.ensures.meets (c.if-meets.ensures.0 refl) in
    record { strength = s.strength; good = s.good; low = s.low; long = c.move_side.ensures.long }

pub returns-in_default : goal.returns-in_default
returns-in_default g c =
    let l = c.loop-core in
    let all = c.labelled-all in
    let s = core_lone _ _ _ _ _ l.invariant.1 c.args.rig.now.lawful (uncut_lone l.sheet.parts l.core all.result all.ensures c.in_default.ensures) in
    record { strength = s.strength; good = s.good; low = s.low; long = l.invariant.0 }

-- there is no part 128
pub returns-after-loop-core : goal.returns-after-loop-core
returns-after-loop-core g c = absurd (omega (arith, core_low _ _ _ _ _ c.loop-core.invariant.1, c.loop-core-test.false))
