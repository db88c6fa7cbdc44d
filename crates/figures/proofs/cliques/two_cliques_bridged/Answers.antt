use Rattle.std.proofs.Common.{List, [], ◌∷◌, ap, subst}
use Rattle.houses.specs.Sheets.{cables_of}
use Rattle.plan.specs.Tables.{closed_cables}
use Rattle.network.specs.declared.cable.TourCable.{TourCable}
use Rattle.figures.specs.Grades.{copper}
use Rattle.figures.specs.Over.{Over}
use Rattle.figures.specs.Rigs.{two_cliques, bridge}
use Rattle.figures.proofs.Lives.{laid_over, lifted_over, reopened_over, closed_present}
use Rattle.figures.proofs.CliqueFigures.{within_tells, across_tells, bridged_tells}
use Rattle.figures.proofs.cliques.two_cliques_bridged.Goals as goal

abbrev row : List TourCable
row = record { tag = 7; cable = bridge } ∷ []

module _ (c : goal.After-ask-across_again) where
  begun : Over c.begin_over.result two_cliques []
  begun = subst (λ cs. Over c.begin_over.result cs []) (ap cables_of c.two_cliques.ensures) c.begin_over.ensures

  bridged : Over c.lay.new.self two_cliques row
  bridged = laid_over two_cliques [] c.reopen-open.result
      (reopened_over two_cliques [] c.begin_over.result begun c.close-plan.result c.reopen-open.result c.close-plan.ensures c.reopen-open.ensures)
      c.lay.new.self 7 2 6 (copper 5) c.lay.result c.lay.ensures

  lifted : Over c.lift.new.self two_cliques []
  lifted = lifted_over two_cliques row c.reopen-open-2.result
      (reopened_over two_cliques row c.lay.new.self bridged c.close-plan-2.result c.reopen-open-2.result c.close-plan-2.ensures c.reopen-open-2.ensures)
      c.lift.new.self 7 c.lift.result c.lift.ensures

pub returns : goal.returns
returns c =
    let first = closed_present two_cliques [] c.begin_over.result (begun c) c.close-plan.result c.close-plan.ensures in
    let second = closed_present two_cliques row c.lay.new.self (bridged c) c.close-plan-2.result c.close-plan-2.ensures in
    let third = closed_present two_cliques [] c.lift.new.self (lifted c) c.close-plan-3.result c.close-plan-3.ensures in
    record {
      within = within_tells (closed_cables c.close-plan.result) c.ask-within.result first (c.ask-within.ensures.strength, c.ask-within.ensures.group);
      across = across_tells (closed_cables c.close-plan.result) c.ask-across.result first (c.ask-across.ensures.strength, c.ask-across.ensures.group);
      bridged = bridged_tells (closed_cables c.close-plan-2.result) c.ask-bridged.result second (c.ask-bridged.ensures.strength, c.ask-bridged.ensures.group);
      within_again = within_tells (closed_cables c.close-plan-3.result) c.ask-within_again.result third (c.ask-within_again.ensures.strength, c.ask-within_again.ensures.group);
      across_again = across_tells (closed_cables c.close-plan-3.result) c.ask-across_again.result third (c.ask-across_again.ensures.strength, c.ask-across_again.ensures.group);
    }
