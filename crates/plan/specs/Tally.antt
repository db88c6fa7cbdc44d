-- The tally of a tour: what lays and lifts answer and leave, from their arguments alone. It begins with no cable. Assumes nothing.
--   laid t                   the cables of a tour in laying order, with their tags
--   tour_cables t            the cables of a tally, without their tags
--   place t tag              the place of the cable with the tag, if there is one
--   lay_answer t tag c       the first rule that the lay breaks, else the new count
--   lay_after t tag c        the tally after it: the cable appended, or as it was
--   lift_answer t tag        the new count, or that the tag is missing
--   lift_after t tag         the tally after it: without the cable of the tag, the rest in their order, or as it was
use Rattle.std.specs.Prelude.{ℕ, ◌+◌, cond, not, ◌||◌, List, [], ◌∷◌, ◌++◌, map, length, is_some, Ok, Err, Option, Result, position, ◌==◌, nat_le}
use Rattle.network.specs.Cables.{above, fit_run}
use Rattle.network.specs.Refusals.{refuse}
use Rattle.network.specs.declared.cable.Cable.{Cable}
use Rattle.network.specs.declared.refusal.Refusal.{Refusal}
use Rattle.network.specs.declared.refusal.Refusal.TheVariants.{DeviceOutOfRange, SameEnds, RunOutOfRange, TagTaken, TourFull, TagMissing}
use Rattle.network.specs.declared.cable.TourCable.{TourCable}
use Rattle.plan.specs.declared.tour.Tour.{Tour}

abbrev pub laid : Tour → List TourCable
laid t = t.rows.items

abbrev pub tour_cables : List TourCable → List Cable
tour_cables t = map (λ x. x.cable) t

abbrev pub place : List TourCable → ℕ → Option ℕ
place t tag = position (λ x. x.tag == tag) t

abbrev pub lay_answer : List TourCable → ℕ → Cable → Result ℕ Refusal
lay_answer t tag c =
    refuse DeviceOutOfRange (above c.a || above c.b) (
    refuse SameEnds (c.a == c.b) (
    refuse RunOutOfRange (not (fit_run c.run)) (
    refuse TagTaken (is_some (place t tag)) (
    refuse TourFull (nat_le 256 (length t)) (
    Ok (length t + 1))))))

abbrev pub appended : List TourCable → TourCable → Result ℕ Refusal → List TourCable
appended t x (Ok n) = t ++ (x ∷ [])
appended t x (Err e) = t

abbrev pub lay_after : List TourCable → ℕ → Cable → List TourCable
lay_after t tag c = appended t (record { tag = tag; cable = c }) (lay_answer t tag c)

abbrev pub lift_after : List TourCable → ℕ → List TourCable
lift_after [] tag = []
lift_after (x ∷ xs) tag = cond (x.tag == tag) xs (x ∷ lift_after xs tag)

abbrev pub lift_answer : List TourCable → ℕ → Result ℕ Refusal
lift_answer t tag = refuse TagMissing (not (is_some (place t tag))) (Ok (length (lift_after t tag)))
