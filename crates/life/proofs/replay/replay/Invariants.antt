use Rattle.std.proofs.Common.{vec_items}
use Rattle.life.proofs.Scripts.{Come}
use Rattle.life.proofs.replay.replay.Given as goal

abbrev pub invariant-loop-call : goal.invariant-loop-call
invariant-loop-call g l =
    Come g.H.House.cables g.Y.Grade.Grade.over (λ _. g.Y.Yardstick.graded) l.initial.plan l.script l.call-index (vec_items l.answers) l.plan
