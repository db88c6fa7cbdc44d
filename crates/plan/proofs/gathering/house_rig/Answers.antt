use Rattle.std.proofs.Common.{◌≡◌, ◌+◌, ◌≤◌, length, take, Some, sym, ap, ◌∙◌, arith}
use Rattle.std.specs.List.{slice_get}
use Rattle.std.proofs.lemmas.List.{take_all}
use Rattle.cuts.specs.Rigs.{rig_cables}
use Rattle.plan.proofs.Gathered.{next_of, past_last}
use Rattle.plan.proofs.gathering.house_rig.Given as given
use Rattle.plan.proofs.gathering.house_rig.Goals.{After-push}
use Rattle.plan.proofs.gathering.house_rig.Goals as goal

grown : (g : given.Over) (c : After-push g) → (rig_cables c.push.new.self ≡ take (length (rig_cables c.push.new.self)) (g.H.House.cables c.args.house.now))
    × ((length (rig_cables c.push.new.self) ≡ length (rig_cables c.loop-cable.rig) + 1) × (length (rig_cables c.push.new.self) ≤ length (g.H.House.cables c.args.house.now)))
grown g c =
    let h = c.args.house.now in
    let cs = g.H.House.cables h in
    let old = rig_cables c.loop-cable.rig in
    let at : slice_get cs (length old) ≡ Some c.in-Some.cable = ap (slice_get cs) (sym c.len.ensures) ∙ sym c.in-Some.ensures in
    next_of cs old (rig_cables c.push.new.self) c.in-Some.cable c.push.result (g.H.House.lawful h) (g.H.House.few h) at c.push.ensures c.loop-cable.invariant.0

pub loop-cable-preserved : goal.loop-cable-preserved
loop-cable-preserved g c = let more = grown g c in (more.0, more.1.1)

pub loop-cable-smaller : goal.loop-cable-smaller
loop-cable-smaller g c = let more = grown g c in omega (arith, more.1.0, more.1.1)

pub returns : goal.returns
returns g c =
    let cs = g.H.House.cables c.args.house.now in
    let n = length (rig_cables c.loop-cable.rig) in
    c.loop-cable.invariant.0 ∙ take_all n cs (past_last cs n (c.in_default.ensures ∙ ap (slice_get cs) c.len.ensures))
