-- A script of calls and its answers, as asks and replies. Assumes nothing.
--   ask_of c         the ask that a call of a script is
--   reply_of a       the reply that an answer is
--   row cs bs        the calls of a script with their answers, in turn
--   Replayed         how a script is answered on a plan begun over the house h: every call has an answer; the replies are told right; and
--                    the calls with their answers are a life of such a plan
use Rattle.std.specs.Prelude.{◌≡◌, Bool, true, List, [], ◌∷◌, length, vec_items}
use Rattle.network.specs.declared.cable.Cable.{Cable}
use Rattle.network.specs.declared.cable.Run.{Run}
use Rattle.plan.specs.States.{Begins}
use Rattle.plan.specs.declared.plan.Open.{Open}
use Rattle.plan.specs.declared.state.Plan.TheVariants as plan
use Rattle.life.specs.Asks as ask
use Rattle.life.specs.Asks.{Ask}
use Rattle.life.specs.Replies as reply
use Rattle.life.specs.Replies.{Reply}
use Rattle.life.specs.Telling.{Told}
use Rattle.life.specs.Lives.{Life}
use Rattle.life.specs.declared.call.Answer.{Answer}
use Rattle.life.specs.declared.call.Answer.TheVariants as answer
use Rattle.life.specs.declared.call.Call.{Call}
use Rattle.life.specs.declared.call.Call.TheVariants as call

abbrev pub ask_of : {Y : Type 0} → Call Y → Ask Y
ask_of (call.Lay l) = ask.lay l.tag l.cable.a l.cable.b l.cable.run
ask_of (call.Lift tag) = ask.lift tag
ask_of call.Close = ask.close
ask_of call.Reopen = ask.reopen
ask_of (call.Strength l) = ask.strength (vec_items l)
ask_of (call.Group l b) = ask.group (vec_items l) (vec_items b)
ask_of (call.Run l y) = ask.run (vec_items l) y

abbrev pub reply_of : {G : Type 0} → Answer G → Reply G
reply_of (answer.Tour r) = reply.tour r
reply_of answer.Turned = reply.turned
reply_of (answer.Strength r) = reply.strength r
reply_of (answer.Group r b) = reply.group r (vec_items b)
reply_of (answer.Run r) = reply.run r
reply_of answer.NotNow = reply.not_now

abbrev pub row : {Y G : Type 0} → List (Call Y) → List (Answer G) → List (Ask Y × Reply G)
row [] bs = []
row (c ∷ cs) [] = []
row (c ∷ cs) (b ∷ bs) = (ask_of c, reply_of b) ∷ row cs bs

pub record Replayed {X Y G : Type 0} (cables : X → List Cable) (over : G → G → Bool) (graded : Y → Run → G) (h : X) (script : List (Call Y)) (answers : List (Answer G)) : Type 0 where
  pub all : length answers ≡ length script
  pub told : Told (cables h) over graded true [] (row script answers)
  pub life : (p : Open X) × (Begins h p × Life cables over graded (plan.Open p) (row script answers))
