-- The lives of a plan, and the law over all of them. Assumes nothing.
-- A house h has the cables `cables h` by place; a grade reaches another by `over`; `graded y` grades a run under the yardstick y.
--   Step s q r s'     the ask q of the plan s is replied r and leaves the plan s': as the contract of its call says, and where the state
--                     of s does not allow the ask, nothing is called, the reply is not_now and the plan is as it was
--   Life s ds         a row of asks with their replies, from the plan s on: every step starts where the one before stopped
--   LifeLaw           whatever the house, every life of a plan that is begun over it is told right by the tally and the subject
--   OtherRun          a run question under a yardstick is refused just as its tests say, whatever the yardstick's type: what a life
--                     under one type of yardsticks says of the questions under the others
use Rattle.std.specs.Prelude.{◌≡◌, ℕ, Bool, true, false, List, [], ◌∷◌, Option, Result}
use Rattle.network.specs.declared.cable.Cable.{Cable}
use Rattle.network.specs.declared.cable.Run.{Run}
use Rattle.network.specs.declared.refusal.Refusal.{Refusal}
use Rattle.plan.specs.Plans.{is_open}
use Rattle.plan.specs.Questions.{StrengthAnswer, GroupAnswer, RunAnswer}
use Rattle.plan.specs.States.{Begins, Lays, Lifts, Closes, Reopens}
use Rattle.plan.specs.Tables.{closed_cables}
use Rattle.plan.specs.Tests.{run_check}
use Rattle.plan.specs.declared.plan.Closed.{Closed}
use Rattle.plan.specs.declared.plan.Open.{Open}
use Rattle.plan.specs.declared.state.Plan.{Plan}
use Rattle.plan.specs.declared.state.Plan.TheVariants as plan
use Rattle.life.specs.Asks as ask
use Rattle.life.specs.Asks.{Ask, allowed}
use Rattle.life.specs.Replies as reply
use Rattle.life.specs.Replies.{Reply, refusal_in}
use Rattle.life.specs.Telling.{Told}

pub data Step {X Y G : Type 0} (cables : X → List Cable) (over : G → G → Bool) (graded : Y → Run → G) : Plan X → Ask Y → Reply G → Plan X → Type 0 where
  lays : {p q : Open X} (tag a b : ℕ) (m : Run) (r : Result ℕ Refusal) → Lays p tag a b m r q → Step cables over graded (plan.Open p) (ask.lay tag a b m) (reply.tour r) (plan.Open q)
  lifts : {p q : Open X} (tag : ℕ) (r : Result ℕ Refusal) → Lifts p tag r q → Step cables over graded (plan.Open p) (ask.lift tag) (reply.tour r) (plan.Open q)
  closes : {p : Open X} {c : Closed X} → Closes cables p c → Step cables over graded (plan.Open p) ask.close reply.turned (plan.Closed c)
  reopens : {c : Closed X} {p : Open X} → Reopens c p → Step cables over graded (plan.Closed c) ask.reopen reply.turned (plan.Open p)
  strengths : {c : Closed X} (l : List ℕ) (r : Result (Option ℕ) Refusal) → StrengthAnswer (closed_cables c) l r → Step cables over graded (plan.Closed c) (ask.strength l) (reply.strength r) (plan.Closed c)
  groups : {c : Closed X} (l b : List ℕ) (r : Result (Option (ℕ × ℕ)) Refusal) (b' : List ℕ) → GroupAnswer (closed_cables c) l b r b' → Step cables over graded (plan.Closed c) (ask.group l b) (reply.group r b') (plan.Closed c)
  runs : {c : Closed X} (l : List ℕ) (y : Y) (r : Result (Option G) Refusal) → RunAnswer over (graded y) (closed_cables c) l r → Step cables over graded (plan.Closed c) (ask.run l y) (reply.run r) (plan.Closed c)
  others : {c : Closed X} (l : List ℕ) → Step cables over graded (plan.Closed c) (ask.elsewhere l) (reply.elsewhere (refusal_in (run_check l))) (plan.Closed c)
  idles : {s : Plan X} (q : Ask Y) → allowed (is_open s) q ≡ false → Step cables over graded s q reply.not_now s

pub data Life {X Y G : Type 0} (cables : X → List Cable) (over : G → G → Bool) (graded : Y → Run → G) : Plan X → List (Ask Y × Reply G) → Type 0 where
  ends : {s : Plan X} → Life cables over graded s []
  goes : {s s' : Plan X} {ds : List (Ask Y × Reply G)} (q : Ask Y) (r : Reply G) → Step cables over graded s q r s' → Life cables over graded s' ds → Life cables over graded s ((q, r) ∷ ds)

abbrev pub LifeLaw : {X Y G : Type 0} → (X → List Cable) → (G → G → Bool) → (Y → Run → G) → Type 0
LifeLaw {X} {Y} {G} cables over graded =
    (h : X) (p : Open X) (ds : List (Ask Y × Reply G)) → Begins h p → Life cables over graded (plan.Open p) ds → Told (cables h) over graded true [] ds

abbrev pub OtherRun : {Y G : Type 0} → (G → G → Bool) → (Y → Run → G) → Type 0
OtherRun {Y} {G} over graded =
    (cs : List Cable) (l : List ℕ) (y : Y) (r : Result (Option G) Refusal) → RunAnswer over (graded y) cs l r → refusal_in r ≡ refusal_in (run_check l)
