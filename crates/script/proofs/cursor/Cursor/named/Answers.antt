use Rattle.std.proofs.Common.{rules}
use Rattle.script.specs.Arguments.{faulted}
use Rattle.script.proofs.cursor.Cursor.named.Goals as goal

pub returns : goal.returns
returns g c = λ says is. c.read.ensures (λ w. faulted c.args.fault (says w)) (λ w r h. search rules)
