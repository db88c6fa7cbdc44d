use Rattle.std.proofs.Common.{arith}
use Rattle.marks.proofs.Turns.{zeros, state_none}
use Rattle.marks.proofs.parts.Parts.whole.Goals as goal

pub returns : goal.returns
returns c cs = record { state = state_none cs _ _ _ c.one_part.ensures.zero (zeros 128 0); done = λ r h. absurd (omega arith) }
