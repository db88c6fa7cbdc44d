use Rattle.std.proofs.Common.{sym, subst, rules}
use Rattle.network.specs.Cables.{Lawful}
use Rattle.network.specs.declared.cable.TourCable.{TourCable}
use Rattle.network.proofs.Checks.{checked_lawful}
use Rattle.plan.specs.Tally.{laid, tour_cables}
use Rattle.plan.proofs.Tours.{lawful_laid}
use Rattle.plan.proofs.tour.Tour.lay.Goals as goal

pub invariant_of-self : goal.invariant_of-self
invariant_of-self c =
    let s = c.args.self.now in
    let row : TourCable = record { tag = c.args.tag; cable = c.args.cable } in
    record {
      few = search rules;
      lawful = subst (λ t. Lawful (tour_cables t)) (sym c.push.ensures.items) (lawful_laid (laid s) row s.lawful (checked_lawful c.args.cable c.in_ok-check.field-0 c.in_ok-check.ensures));
    }
