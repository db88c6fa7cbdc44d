-- What the tally and the subject say of a life: from the house's cables and the arguments of the asks alone. Assumes nothing.
-- The house's cables by place are `house`; a grade reaches another by `over`; `graded y` grades a run under the yardstick y.
--   present t       the cables present: the house's by place, and then the tally's
--   Right o t q r   r is the right reply to the ask q of a plan that is open (o) or closed and whose tally is t: a lay and a lift are
--                   answered as the tally does; a question is refused just as its tests say, and else the strength, the group or the run
--                   told is right over the cables present; an ask that the state does not allow is answered not_now
--   Told o t ds     each reply of a row of asks with their replies is right, in turn, as the asks before it left the state and the tally
use Rattle.std.specs.Prelude.{◌≡◌, ℕ, Bool, true, false, List, [], ◌∷◌, ◌++◌, Option, Result}
use Rattle.network.specs.declared.cable.Cable.{Cable}
use Rattle.network.specs.declared.cable.Run.{Run}
use Rattle.network.specs.declared.refusal.Refusal.{Refusal}
use Rattle.plan.specs.Questions.{StrengthAnswer, GroupAnswer, RunAnswer}
use Rattle.plan.specs.States.{cable_of}
use Rattle.plan.specs.Tally.{tour_cables, lay_answer, lift_answer}
use Rattle.plan.specs.Tests.{run_check}
use Rattle.network.specs.declared.cable.TourCable.{TourCable}
use Rattle.life.specs.Asks as ask
use Rattle.life.specs.Asks.{Ask, open_after, tally_after}
use Rattle.life.specs.Replies as reply
use Rattle.life.specs.Replies.{Reply, refusal_in}

module _ {Y G : Type 0} (house : List Cable) (over : G → G → Bool) (graded : Y → Run → G) where
  abbrev pub present : List TourCable → List Cable
  present t = house ++ tour_cables t

  abbrev pub Right : Bool → List TourCable → Ask Y → Reply G → Type 0
  Right true t (ask.lay tag a b m) r = r ≡ reply.tour (lay_answer t tag (cable_of a b m))
  Right true t (ask.lift tag) r = r ≡ reply.tour (lift_answer t tag)
  Right true t ask.close r = r ≡ reply.turned
  Right true t ask.reopen r = r ≡ reply.not_now
  Right true t (ask.strength l) r = r ≡ reply.not_now
  Right true t (ask.group l b) r = r ≡ reply.not_now
  Right true t (ask.run l y) r = r ≡ reply.not_now
  Right true t (ask.elsewhere l) r = r ≡ reply.not_now
  Right false t (ask.lay tag a b m) r = r ≡ reply.not_now
  Right false t (ask.lift tag) r = r ≡ reply.not_now
  Right false t ask.close r = r ≡ reply.not_now
  Right false t ask.reopen r = r ≡ reply.turned
  Right false t (ask.strength l) r =
      (x : Result (Option ℕ) Refusal) × ((r ≡ reply.strength x) × StrengthAnswer (present t) l x)
  Right false t (ask.group l b) r =
      (x : Result (Option (ℕ × ℕ)) Refusal) × ((b' : List ℕ) × ((r ≡ reply.group x b') × GroupAnswer (present t) l b x b'))
  Right false t (ask.run l y) r =
      (x : Result (Option G) Refusal) × ((r ≡ reply.run x) × RunAnswer over (graded y) (present t) l x)
  Right false t (ask.elsewhere l) r = r ≡ reply.elsewhere (refusal_in (run_check l))

  abbrev pub Told : Bool → List TourCable → List (Ask Y × Reply G) → Type 0
  Told o t [] = Unit {0}
  Told o t (d ∷ ds) = Right o t d.0 d.1 × Told (open_after o d.0) (tally_after o t d.0) ds
