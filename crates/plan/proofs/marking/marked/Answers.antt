use Rattle.std.proofs.Common.{◌++◌, sym, ap, ◌∙◌, subst}
use Rattle.network.specs.Cables.{Lawful}
use Rattle.cuts.specs.Rigs.{rig_cables}
use Rattle.marks.specs.State.{number}
use Rattle.plan.specs.Rows.{cables_in}
use Rattle.plan.specs.Tally.{tour_cables}
use Rattle.plan.proofs.Gathered.{cables_rows}
use Rattle.plan.proofs.marking.marked.Goals as goal

pub add_all-requires-clause-lawful : goal.add_all-requires-clause-lawful
add_all-requires-clause-lawful g c = subst (λ rows. Lawful (tour_cables rows)) (sym c.as_slice.ensures.value) c.args.tour.now.lawful

pub returns : goal.returns
returns g c =
    ap cables_in c.tabulate.ensures
    ∙ cables_rows (number c.mark_all-marks.result) (rig_cables c.add_all.new.rig)
    ∙ c.add_all.ensures
    ∙ ap (λ rows. rig_cables c.house_rig-rig.result ++ tour_cables rows) c.as_slice.ensures.value
    ∙ ap (λ l. l ++ tour_cables c.args.tour.now.rows.items) c.house_rig-rig.ensures
