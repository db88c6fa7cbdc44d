use Rattle.script.specs.Yardsticks.{yardstick_named}
use Rattle.script.proofs.cursor.Cursor.yardstick.Goals as goal

pub returns : goal.returns
returns c = c.named.ensures yardstick_named (λ w r e. e)
