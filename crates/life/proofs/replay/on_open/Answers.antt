-- Each call is the step that its contract says, and what an open plan does not take is none. Assumes nothing.
use Rattle.life.specs.Lives.{lays, lifts, closes, idles}
use Rattle.life.proofs.Scripts.{step_of, not_open}
use Rattle.life.proofs.replay.on_open.Goals as goal

pub returns-in-Lay : goal.returns-in-Lay
returns-in-Lay g c =
    step_of g.H.House.cables g.Y.Grade.Grade.over (λ _. g.Y.Yardstick.graded) c.in-Lay.is (lays _ _ _ _ _ c.lay-answer.ensures)

pub returns-in-Lift : goal.returns-in-Lift
returns-in-Lift g c =
    step_of g.H.House.cables g.Y.Grade.Grade.over (λ _. g.Y.Yardstick.graded) c.in-Lift.is (lifts _ _ c.lift-answer.ensures)

pub returns-in-Close : goal.returns-in-Close
returns-in-Close g c =
    step_of g.H.House.cables g.Y.Grade.Grade.over (λ _. g.Y.Yardstick.graded) c.in-Close.is (closes c.close.ensures)

pub returns-in_default : goal.returns-in_default
returns-in_default g c = let r = c.in_default in idles _ (not_open c.args.call.now r.not-Lay r.not-Lift r.not-Close)
