use Rattle.std.proofs.Common.{rules}
use Rattle.script.specs.Numerals.{number}
use Rattle.script.proofs.cursor.Cursor.number.Goals as goal

pub returns : goal.returns
returns c = c.read.ensures (number c.args.limit) (λ w r h. search rules)
