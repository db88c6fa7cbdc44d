-- What a console answers to a command, and what it then holds. Assumes nothing.
--   told r               what is said of the answer to a lay or a lift
--   marked_reply o       what is said of the cable at a place, if there is one
--   reply o cs t c       the answer to a command, the plan being open or closed, with the cables cs stored and the tour t
--   open_after o c       whether the plan is open after it
--   tour_after o t c     the tour after it, as the tally has it
--   stored_after ..      the cables that it stores after it
use Rattle.std.specs.Prelude.{ℕ, Bool, true, false, List, [], Some, None, Ok, Err, Option, Result}
use Rattle.network.specs.declared.cable.Cable.{Cable}
use Rattle.network.specs.declared.cable.MarkedCable.{MarkedCable}
use Rattle.network.specs.declared.refusal.Refusal.{Refusal}
use Rattle.plan.specs.Tally.{lay_answer, lay_after, lift_answer, lift_after}
use Rattle.plan.specs.Tables.{marked_at}
use Rattle.network.specs.declared.cable.TourCable.{TourCable}
use Rattle.script.specs.declared.command.Command.{Command}
use Rattle.script.specs.declared.command.Command.TheVariants as say
use Rattle.desk.specs.declared.reply.Reply.{Reply}
use Rattle.desk.specs.declared.reply.Reply.TheVariants as answer

abbrev pub told : Result ℕ Refusal → Reply
told (Ok n) = answer.Tour n
told (Err e) = answer.Refused e

abbrev pub marked_reply : Option MarkedCable → Reply
marked_reply (Some m) = answer.Marked m
marked_reply None = answer.Absent

abbrev pub reply : Bool → List Cable → List TourCable → Command → Reply
reply o cs t (say.House bytes) = answer.NotNow
reply o cs t (say.Shift by) = answer.NotNow
reply o cs t say.Begin = answer.NotNow
reply true cs t (say.Lay l) = told (lay_answer t l.tag l.cable)
reply false cs t (say.Lay l) = answer.NotNow
reply true cs t (say.Lift tag) = told (lift_answer t tag)
reply false cs t (say.Lift tag) = answer.NotNow
reply true cs t say.Close = answer.Closed
reply false cs t say.Close = answer.NotNow
reply true cs t say.Reopen = answer.NotNow
reply false cs t say.Reopen = answer.Open
reply true cs t (say.Mark place) = answer.NotNow
reply false cs t (say.Mark place) = marked_reply (marked_at cs place)
reply true cs t (say.Strength l) = answer.NotNow
reply false cs t (say.Strength l) = answer.NotYet
reply true cs t (say.Group l) = answer.NotNow
reply false cs t (say.Group l) = answer.NotYet
reply true cs t (say.Run y l) = answer.NotNow
reply false cs t (say.Run y l) = answer.NotYet
reply true cs t (say.Cut l) = answer.NotNow
reply false cs t (say.Cut l) = answer.NotYet
reply true cs t (say.Judge c) = answer.NotNow
reply false cs t (say.Judge c) = answer.NotYet

-- a close shuts an open plan, a reopen opens a closed one, and nothing else changes the state
abbrev pub open_after : Bool → Command → Bool
open_after o (say.House bytes) = o
open_after o (say.Shift by) = o
open_after o say.Begin = o
open_after o (say.Lay l) = o
open_after o (say.Lift tag) = o
open_after o say.Close = false
open_after o say.Reopen = true
open_after o (say.Mark place) = o
open_after o (say.Strength l) = o
open_after o (say.Group l) = o
open_after o (say.Run y l) = o
open_after o (say.Cut l) = o
open_after o (say.Judge c) = o

-- a lay and a lift change an open plan's tour, and nothing else does
abbrev pub tour_after : Bool → List TourCable → Command → List TourCable
tour_after false t c = t
tour_after true t (say.House bytes) = t
tour_after true t (say.Shift by) = t
tour_after true t say.Begin = t
tour_after true t (say.Lay l) = lay_after t l.tag l.cable
tour_after true t (say.Lift tag) = lift_after t tag
tour_after true t say.Close = t
tour_after true t say.Reopen = t
tour_after true t (say.Mark place) = t
tour_after true t (say.Strength l) = t
tour_after true t (say.Group l) = t
tour_after true t (say.Run y l) = t
tour_after true t (say.Cut l) = t
tour_after true t (say.Judge c) = t

-- closing stores the cables present, reopening none, and nothing else changes what is stored
abbrev pub stored_after : List Cable → Bool → List Cable → Command → List Cable
stored_after present o cs (say.House bytes) = cs
stored_after present o cs (say.Shift by) = cs
stored_after present o cs say.Begin = cs
stored_after present o cs (say.Lay l) = cs
stored_after present o cs (say.Lift tag) = cs
stored_after present true cs say.Close = present
stored_after present false cs say.Close = cs
stored_after present true cs say.Reopen = cs
stored_after present false cs say.Reopen = []
stored_after present o cs (say.Mark place) = cs
stored_after present o cs (say.Strength l) = cs
stored_after present o cs (say.Group l) = cs
stored_after present o cs (say.Run y l) = cs
stored_after present o cs (say.Cut l) = cs
stored_after present o cs (say.Judge c) = cs
