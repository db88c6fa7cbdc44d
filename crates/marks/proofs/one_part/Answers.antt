use Rattle.std.proofs.Common.{refl}
use Rattle.marks.proofs.Turns.{zeros}
use Rattle.marks.proofs.one_part.Goals as goal

pub returns : goal.returns
returns c = record { long = refl; zero = λ d. zeros 128 d }
