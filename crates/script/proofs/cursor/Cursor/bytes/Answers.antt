use Rattle.std.proofs.Common.{rules}
use Rattle.script.proofs.Arguments.{read_bytes, on_ok}
use Rattle.script.proofs.cursor.Cursor.bytes.Goals as goal

pub returns : goal.returns
returns c = (
  read_bytes _ c.args.self.now.place _ c.in_ok-bytes.bytes _ c.in_ok-word.ensures.0 (search rules) c.in_ok-bytes.ensures (search rules),
  c.in_ok-word.ensures.1,
  on_ok _ c.in_ok-word.ensures.2,
)
