use Rattle.std.proofs.Common.{◌≡◌, ◌++◌, ◌∷◌, [], length, get_or, sym, ap, ◌∙◌, subst, arith}
use Rattle.std.proofs.lemmas.List.{take_all}
use Rattle.network.specs.Cables.{Lawful}
use Rattle.network.proofs.Places.{blank}
use Rattle.cuts.specs.Rigs.{rig_cables}
use Rattle.marks.specs.State.{number}
use Rattle.plan.specs.Rows.{cables_in, Marked, mark_rows}
use Rattle.plan.proofs.Gathered.{rows_more, rows_marked, cables_rows, length_rows}
use Rattle.plan.proofs.marking.tabulate.Goals.{After-loop-place}
use Rattle.plan.proofs.marking.tabulate.Goals as goal

-- the rows are all there
whole : (c : After-loop-place) → c.loop-place.rows.items ≡ mark_rows (number c.args.marks.now) (rig_cables c.args.rig.now)
whole c =
    let m = number c.args.marks.now in
    let cs = rig_cables c.args.rig.now in
    let e = ap length c.cables-cable-items.ensures in
    c.loop-place.invariant ∙ take_all c.loop-place.place (mark_rows m cs) (omega (arith, length_rows m cs, e, c.loop-place-test.false))

pub loop-place-preserved : goal.loop-place-preserved
loop-place-preserved c =
    let m = number c.args.marks.now in
    let cs = rig_cables c.args.rig.now in
    let i = c.loop-place.place in
    let e = c.cables-cable-items.ensures in
    let more = c.push.ensures.items ∙ ap (λ xs. c.loop-place.rows.items ++ record { cable = get_or xs i blank; mark = m i } ∷ []) e in
    rows_more m cs c.loop-place.rows.items c.push.new.self.items i (omega (arith, ap length e, c.loop-place-test.true)) c.loop-place.invariant more

pub invariant_of-result : goal.invariant_of-result
invariant_of-result c =
    let r = c.args.rig.now in
    let m = number c.args.marks.now in
    let e = whole c in
    record {
      few = omega (arith, ap length e, length_rows m (rig_cables r), r.few);
      lawful = subst Lawful (sym (ap cables_in e ∙ cables_rows m (rig_cables r))) r.lawful;
      marked = subst (λ x. Marked x) (sym e) (rows_marked m (rig_cables r) r.lawful c.requires);
    }

pub returns : goal.returns
returns c = whole c.before
