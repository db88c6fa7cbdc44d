use Rattle.std.proofs.Common.{◌≡◌, ◌<◌, ◌++◌, ◌∷◌, [], map, length, get_or, take, Some, sym, ap, ◌∙◌, arith}
use Rattle.std.specs.List.{slice_get}
use Rattle.std.proofs.lemmas.List.{length-append, length-map, length-take-le}
use Rattle.std.proofs.lemmas.Option.{slice_get-get_or}
use Rattle.network.proofs.ListPlaces.{mapped, nth_map}
use Rattle.cuts.specs.Rigs.{rig_cables}
use Rattle.plan.proofs.Gathered.{pushed, one_more}
use Rattle.plan.proofs.gathering.add_all.Goals as goal

pub loop-record-preserved : goal.loop-record-preserved
loop-record-preserved g c =
    let held = g.R.Record.held in
    let rs = c.args.records.now in
    let first = rig_cables c.args.rig.now in
    let i = c.loop-record.record-index in
    let x = c.record-item.result in
    let old = rig_cables c.loop-record.rig in
    let new = rig_cables c.push.new.self in
    let low = c.loop-record-test.true in
    let cable : c.cable.result ≡ held (get_or rs i x) = c.cable.ensures ∙ ap held c.record-item.is in
    let at : slice_get (map held rs) i ≡ Some c.cable.result = nth_map held rs i ∙ ap (mapped held) (slice_get-get_or rs i x low) ∙ ap Some (sym cable) in
    let room : length old < 512 = omega (arith, ap length c.loop-record.invariant, length-append first (map held (take i rs)), length-map (take i rs) held, length-take-le i rs (omega arith), c.requires.room) in
    let more = pushed old new c.cable.result c.push.result (c.requires.lawful i c.cable.result at) room c.push.ensures in
    one_more held first old new rs i x low c.loop-record.invariant (more ∙ ap (λ d. old ++ d ∷ []) cable)
