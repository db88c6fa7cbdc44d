-- Each call is the step that its contract says, and what a closed plan does not take is none. Assumes nothing.
use Rattle.std.proofs.Common.{◌≡◌, vec_items, ◌∙◌, subst}
use Rattle.plan.specs.Questions.{StrengthAnswer, GroupAnswer, RunAnswer}
use Rattle.plan.specs.Tables.{closed_cables}
use Rattle.life.specs.Lives.{reopens, strengths, groups, runs, idles}
use Rattle.life.proofs.Scripts.{step_of, not_closed}
use Rattle.life.proofs.replay.on_closed.Goals as goal

pub returns-in-Reopen : goal.returns-in-Reopen
returns-in-Reopen g c =
    step_of g.H.House.cables g.Y.Grade.Grade.over (λ _. g.Y.Yardstick.graded) c.in-Reopen.is (reopens c.reopen.ensures)

pub returns-in-Strength : goal.returns-in-Strength
returns-in-Strength g c =
    let cs = closed_cables c.args.plan in let r = c.strength-answer.result in
    step_of g.H.House.cables g.Y.Grade.Grade.over (λ _. g.Y.Yardstick.graded) c.in-Strength.is
    (strengths {c = c.args.plan} _ _ (subst (λ l. StrengthAnswer cs l r) c.as_slice.ensures.value c.strength-answer.ensures))

pub returns-in_ok-written-in-Group : goal.returns-in_ok-written-in-Group
returns-in_ok-written-in-Group g c =
    let cs = closed_cables c.args.plan in let r = c.group_into-answer.result in
    let after = vec_items c.group_into-answer.new.buffer in
    let list = vec_items c.in-Group.list in let before = vec_items c.in-Group.buffer in
    let copied : vec_items c.in_ok-written-in-Group.written ≡ before
    = ◌∙◌ {b = c.as_slice-in-Group.result.now} c.in_ok-written-in-Group.ensures.items c.as_slice-in-Group.ensures.value in
    step_of g.H.House.cables g.Y.Grade.Grade.over (λ _. g.Y.Yardstick.graded) c.in-Group.is
    (groups {c = c.args.plan} list before r after
    (subst (λ l. GroupAnswer cs l before r after) c.as_slice-in-Group-2.ensures.value
    (subst (λ b. GroupAnswer cs c.as_slice-in-Group-2.result.now b r after) copied c.group_into-answer.ensures)))

pub returns-in-Run : goal.returns-in-Run
returns-in-Run g c =
    let cs = closed_cables c.args.plan in let r = c.run-answer.result in let over = g.Y.Grade.Grade.over in
    let graded = g.Y.Yardstick.graded in
    step_of g.H.House.cables over (λ _. g.Y.Yardstick.graded) c.in-Run.is
    (runs {c = c.args.plan} _ _ _ (subst (λ l. RunAnswer over graded cs l r) c.as_slice-in-Run.ensures.value c.run-answer.ensures))

pub returns-in_default : goal.returns-in_default
returns-in_default g c =
    let r = c.in_default in idles _ (not_closed c.args.call.now r.not-Reopen r.not-Strength r.not-Group r.not-Run)
