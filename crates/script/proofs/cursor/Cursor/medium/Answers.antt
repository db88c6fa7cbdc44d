use Rattle.network.specs.Media.{medium_named}
use Rattle.script.proofs.cursor.Cursor.medium.Goals as goal

pub returns : goal.returns
returns c = c.named.ensures medium_named (λ w r e. e)
