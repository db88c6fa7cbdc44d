use Rattle.std.proofs.Common.{rules, refl}
use Rattle.script.proofs.Arguments.{read_word, on_ok}
use Rattle.script.proofs.cursor.Cursor.read.Goals as goal

pub returns : goal.returns
returns g c = λ says is. (
  read_word says _ c.args.self.now.place _ c.parse.result c.map_err.result c.in_ok-word.ensures.0 (is _ _ (c.in_ok-word.word, c.parse.ensures, refl)) (search rules),
  c.in_ok-word.ensures.1,
  on_ok _ c.in_ok-word.ensures.2,
)
