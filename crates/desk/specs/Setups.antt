-- What a console answers before a plan is begun, and what it then holds. Assumes nothing.
--   sheet_reply m      what is said of a sheet of this meaning
--   setup_reply c      the answer to a command
--   bytes_after bs c   the bytes of the sheet after it: those of a sheet that is taken, else as before
--   shift_after s c    the shift after it
use Rattle.std.specs.Prelude.{ℕ, cond, List, is_ok, Ok, Err, vec_items, Result}
use Rattle.houses.specs.Sheets.{meaning, counted}
use Rattle.houses.specs.declared.misread.Misread.{Misread}
use Rattle.script.specs.declared.command.Command.{Command}
use Rattle.script.specs.declared.command.Command.TheVariants as say
use Rattle.desk.specs.declared.reply.Reply.{Reply}
use Rattle.desk.specs.declared.reply.Reply.TheVariants as answer

abbrev pub sheet_reply : Result ℕ Misread → Reply
sheet_reply (Ok n) = answer.House n
sheet_reply (Err m) = answer.Misread m

abbrev pub setup_reply : Command → Reply
setup_reply (say.House bytes) = sheet_reply (counted 0 (meaning (vec_items bytes)))
setup_reply (say.Shift by) = answer.Shift by
setup_reply say.Begin = answer.Open
setup_reply (say.Lay l) = answer.NotNow
setup_reply (say.Lift tag) = answer.NotNow
setup_reply say.Close = answer.NotNow
setup_reply say.Reopen = answer.NotNow
setup_reply (say.Mark place) = answer.NotNow
setup_reply (say.Strength l) = answer.NotNow
setup_reply (say.Group l) = answer.NotNow
setup_reply (say.Run y l) = answer.NotNow
setup_reply (say.Cut l) = answer.NotNow
setup_reply (say.Judge c) = answer.NotNow

abbrev pub bytes_after : List ℕ → Command → List ℕ
bytes_after bs (say.House bytes) = cond (is_ok (counted 0 (meaning (vec_items bytes)))) (vec_items bytes) bs
bytes_after bs (say.Shift by) = bs
bytes_after bs say.Begin = bs
bytes_after bs (say.Lay l) = bs
bytes_after bs (say.Lift tag) = bs
bytes_after bs say.Close = bs
bytes_after bs say.Reopen = bs
bytes_after bs (say.Mark place) = bs
bytes_after bs (say.Strength l) = bs
bytes_after bs (say.Group l) = bs
bytes_after bs (say.Run y l) = bs
bytes_after bs (say.Cut l) = bs
bytes_after bs (say.Judge c) = bs

abbrev pub shift_after : ℕ → Command → ℕ
shift_after s (say.House bytes) = s
shift_after s (say.Shift by) = by
shift_after s say.Begin = s
shift_after s (say.Lay l) = s
shift_after s (say.Lift tag) = s
shift_after s say.Close = s
shift_after s say.Reopen = s
shift_after s (say.Mark place) = s
shift_after s (say.Strength l) = s
shift_after s (say.Group l) = s
shift_after s (say.Run y l) = s
shift_after s (say.Cut l) = s
shift_after s (say.Judge c) = s
