use Rattle.std.proofs.Common.{◌≡◌, not, length, is_some, Some, None, Ok, sym, ap, ◌∙◌, subst, arith}
use Rattle.std.specs.Result.{result_ok}
use Rattle.network.specs.Cables.{Lawful}
use Rattle.network.specs.Refusals.{refuse}
use Rattle.network.specs.declared.refusal.Refusal.TheVariants.{TagMissing}
use Rattle.plan.specs.Tally.{laid, tour_cables, place, lift_after}
use Rattle.plan.proofs.Tours.{lift_none, lift_some, lawful_removed}
use Rattle.plan.proofs.tour.Tour.lift.Goals as goal

pub returns-in_err-place-clause-after : goal.returns-in_err-place-clause-after
returns-in_err-place-clause-after c =
    let s = c.args.self.now in
    let e : place (laid s) c.args.tag ≡ None = ap (λ rows. place rows c.args.tag) (sym c.as_slice.ensures.value) ∙ sym c.find.ensures ∙ c.ok_or.ensures.ok_part ∙ ap result_ok c.in_err-place.was in
    sym (lift_none (laid s) c.args.tag e)

pub invariant_of-self : goal.invariant_of-self
invariant_of-self c =
    let s = c.args.self.now in
    record {
      few = omega (arith, s.few, c.remove.ensures.len);
      lawful = subst (λ t. Lawful (tour_cables t)) (sym c.remove.ensures.items) (lawful_removed (laid s) c.in_ok-place.place s.lawful);
    }

pub returns : goal.returns
returns c =
    let s = c.args.self.now in
    let tag = c.args.tag in
    let e : place (laid s) tag ≡ Some c.in_ok-place.place = ap (λ rows. place rows tag) (sym c.as_slice.ensures.value) ∙ sym c.find.ensures ∙ c.ok_or.ensures.ok_part ∙ ap result_ok c.in_ok-place.was in
    let after = c.remove.ensures.items ∙ sym (lift_some (laid s) tag c.in_ok-place.place e) in
    record {
      answer = ap Ok (c.len.ensures.value ∙ ap length after) ∙ sym (ap (λ o. refuse TagMissing (not (is_some o)) (Ok (length (lift_after (laid s) tag)))) e);
      after = after;
    }
