use Rattle.script.specs.Verbs.{verb_named}
use Rattle.script.proofs.cursor.Cursor.verb.Goals as goal

pub returns : goal.returns
returns c = c.named.ensures verb_named (λ w r e. e)
