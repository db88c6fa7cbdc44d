-- What a console says to a question of a closed plan over the cables cs. Assumes nothing.
--   strength_reply a           what is said of the answer to a strength
--   group_reply a b            to a group, with the buffer b that it leaves
--   run_reply a                to a run by the plain yardstick
--   metres_reply a             to a run by length
--   cut_reply a b              to a cut, with the buffer b that it leaves
--   judge_reply a              to a judge
--   Says P said r              some answer a has P, and r is what is said of it
--   replied r                  the reply that is given, or that the call is refused
--   blank                      a buffer of 128 zeros
--   metres_over a b            the length a reaches the length b: it is as short or shorter
--   metres_of run              the length of a run
--   StrengthReply cs l r       r tells the strength of the list l
--   GroupReply cs l r          its group
--   RunReply cs y l r          its poorest run by the yardstick y
--   CutReply cs l r            a cut sheet of it, any good one
--   JudgeReply cs c r          what a judge says of the claim c
--   ClosedReply cs c r         r is an answer to a command on a closed plan that stores the cables cs
use Rattle.std.specs.Prelude.{◌≡◌, ℕ, Bool, List, replicate, Some, None, Ok, Err, vec_items, Option, Result, nat_le}
use Rattle.network.specs.declared.cable.Cable.{Cable}
use Rattle.network.specs.declared.cable.Run.{Run}
use Rattle.network.specs.declared.refusal.Refusal.{Refusal}
use Rattle.forest.specs.Order.{run_over}
use Rattle.forest.specs.declared.grade.Metres.{Metres}
use Rattle.plan.specs.Questions.{StrengthAnswer, GroupAnswer, RunAnswer, CutAnswer}
use Rattle.plan.specs.Judging.{Judges}
use Rattle.plan.specs.Tables.{marked_at}
use Rattle.script.specs.declared.command.Claim.{Claim}
use Rattle.script.specs.declared.command.Command.{Command}
use Rattle.script.specs.declared.command.Command.TheVariants as say
use Rattle.script.specs.declared.command.Yardstick.{Yardstick}
use Rattle.script.specs.declared.command.Yardstick.TheVariants as by
use Rattle.desk.specs.declared.reply.Reply.{Reply}
use Rattle.desk.specs.declared.reply.Reply.TheVariants as answer
use Rattle.desk.specs.Replies.{marked_reply}

abbrev pub strength_reply : Result (Option ℕ) Refusal → Reply
strength_reply (Ok (Some k)) = answer.Strength k
strength_reply (Ok None) = answer.Apart
strength_reply (Err e) = answer.Refused e

abbrev pub group_reply : Result (Option (ℕ × ℕ)) Refusal → List ℕ → Reply
group_reply (Ok (Some a)) b = answer.Group (record { strength = a.0; count = a.1; devices = b })
group_reply (Ok None) b = answer.Apart
group_reply (Err e) b = answer.Refused e

abbrev pub run_reply : Result (Option Run) Refusal → Reply
run_reply (Ok (Some run)) = answer.Run run
run_reply (Ok None) = answer.Apart
run_reply (Err e) = answer.Refused e

abbrev pub metres_reply : Result (Option Metres) Refusal → Reply
metres_reply (Ok (Some m)) = answer.Metres m.0
metres_reply (Ok None) = answer.Apart
metres_reply (Err e) = answer.Refused e

abbrev pub cut_reply : Result ℕ Refusal → List ℕ → Reply
cut_reply (Ok k) b = answer.Cut (record { strength = k; sheet = b })
cut_reply (Err e) b = answer.Refused e

abbrev pub judge_reply : Result (Unit {0}) Refusal → Reply
judge_reply (Ok x) = answer.Accepted
judge_reply (Err e) = answer.Refused e

pub record Says {A : Type 0} (P : A → Type 0) (said : A → Reply) (r : Reply) : Type 0 where
  pub given : A
  pub holds : P given
  pub reply : r ≡ said given

abbrev pub replied : Result Reply Refusal → Reply
replied (Ok r) = r
replied (Err e) = answer.Refused e

abbrev pub blank : List ℕ
blank = replicate 128 0

abbrev pub metres_over : Metres → Metres → Bool
metres_over a b = nat_le a.0 b.0

abbrev pub metres_of : Run → Metres
metres_of run = record { 0 = run.length }

module _ (cs : List Cable) where
  abbrev pub StrengthReply : List ℕ → Reply → Type 0
  StrengthReply l = Says (StrengthAnswer cs l) strength_reply

  abbrev pub GroupReply : List ℕ → Reply → Type 0
  GroupReply l r = (b : List ℕ) × Says (λ a. GroupAnswer cs l blank a b) (λ a. group_reply a b) r

  abbrev pub RunReply : Yardstick → List ℕ → Reply → Type 0
  RunReply by.Plain l = Says (RunAnswer run_over (λ run. run) cs l) run_reply
  RunReply by.Length l = Says (RunAnswer metres_over metres_of cs l) metres_reply

  abbrev pub CutReply : List ℕ → Reply → Type 0
  CutReply l r = (b : List ℕ) × Says (λ a. CutAnswer cs l blank a b) (λ a. cut_reply a b) r

  abbrev pub JudgeReply : Claim → Reply → Type 0
  JudgeReply c = Says (Judges cs (vec_items c.list) c.k (vec_items c.sheet)) judge_reply

abbrev pub ClosedReply : List Cable → Command → Reply → Type 0
ClosedReply cs (say.House bytes) r = r ≡ answer.NotNow
ClosedReply cs (say.Shift by) r = r ≡ answer.NotNow
ClosedReply cs say.Begin r = r ≡ answer.NotNow
ClosedReply cs (say.Lay l) r = r ≡ answer.NotNow
ClosedReply cs (say.Lift tag) r = r ≡ answer.NotNow
ClosedReply cs say.Close r = r ≡ answer.NotNow
ClosedReply cs say.Reopen r = r ≡ answer.Open
ClosedReply cs (say.Mark place) r = r ≡ marked_reply (marked_at cs place)
ClosedReply cs (say.Strength l) r = StrengthReply cs (vec_items l) r
ClosedReply cs (say.Group l) r = GroupReply cs (vec_items l) r
ClosedReply cs (say.Run y l) r = RunReply cs y (vec_items l) r
ClosedReply cs (say.Cut l) r = CutReply cs (vec_items l) r
ClosedReply cs (say.Judge c) r = JudgeReply cs c r
