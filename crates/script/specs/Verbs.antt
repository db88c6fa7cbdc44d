-- The names of the commands. Assumes nothing.
--   verb_named w    the command that the word w names
use Rattle.std.specs.Prelude.{ℕ, cond, List, Ok, Err, codes, Result}
use Rattle.std.specs.Str.{bytes_eq}
use Rattle.script.specs.declared.verb.Verb.{Verb}
use Rattle.script.specs.declared.verb.UnknownVerb.{UnknownVerb}
use Rattle.script.specs.declared.verb.Verb.TheVariants.{House, Shift, Begin, Lay, Lift, Close, Reopen, Mark, Strength, Group, Run, Cut, Judge}

abbrev pub verb_named : List ℕ → Result Verb UnknownVerb
verb_named w =
    cond (bytes_eq w (codes "house")) (Ok House)
    (cond (bytes_eq w (codes "shift")) (Ok Shift)
    (cond (bytes_eq w (codes "begin")) (Ok Begin)
    (cond (bytes_eq w (codes "lay")) (Ok Lay)
    (cond (bytes_eq w (codes "lift")) (Ok Lift)
    (cond (bytes_eq w (codes "close")) (Ok Close)
    (cond (bytes_eq w (codes "reopen")) (Ok Reopen)
    (cond (bytes_eq w (codes "mark")) (Ok Mark)
    (cond (bytes_eq w (codes "strength")) (Ok Strength)
    (cond (bytes_eq w (codes "group")) (Ok Group)
    (cond (bytes_eq w (codes "run")) (Ok Run)
    (cond (bytes_eq w (codes "cut")) (Ok Cut)
    (cond (bytes_eq w (codes "judge")) (Ok Judge) (Err (record {}))))))))))))))
