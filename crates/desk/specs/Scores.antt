-- The score of a script. Assumes nothing.
--   refused_by r      the answer is a refusal
--   one t             one where a test passes
--   Scored c f e s    the score s has c commands, f of them refused, and e errors, each as far as 64 bits count
use Rattle.std.specs.Prelude.{◌≡◌, ℕ, ◌-◌, ◌^◌, min, Bool, true, false, cond}
use Rattle.desk.specs.declared.reply.Reply.{Reply}
use Rattle.desk.specs.declared.reply.Reply.TheVariants.{House, Misread, Shift, Open, Closed, Tour, Marked, Absent, Strength, Apart, Group, Run, Metres, Cut, Accepted, Refused, NotNow, NotYet}
use Rattle.desk.specs.declared.score.Score.{Score}

abbrev pub refused_by : Reply → Bool
refused_by (House n) = false
refused_by (Misread m) = true
refused_by (Shift s) = false
refused_by Open = false
refused_by Closed = false
refused_by (Tour n) = false
refused_by (Marked m) = false
refused_by Absent = false
refused_by (Strength k) = false
refused_by Apart = false
refused_by (Group g) = false
refused_by (Run run) = false
refused_by (Metres n) = false
refused_by (Cut c) = false
refused_by Accepted = false
refused_by (Refused r) = true
refused_by NotNow = false
refused_by NotYet = false

abbrev pub one : Bool → ℕ
one t = cond t 1 0

pub record Scored (c f e : ℕ) (s : Score) : Type 0 where
  pub commands : s.commands ≡ min c (2 ^ 64 - 1)
  pub refused : s.refused ≡ min f (2 ^ 64 - 1)
  pub errors : s.errors ≡ min e (2 ^ 64 - 1)
