use Rattle.std.proofs.Common.{length, vec_items}
use Rattle.script.proofs.Numerals.{HexSofar}
use Rattle.script.proofs.numeral.bytes_in.Given as goal

abbrev pub invariant-loop-rest : goal.invariant-loop-rest
invariant-loop-rest l = HexSofar l.word l.rest (vec_items l.found)

abbrev pub decreases-loop-rest : goal.decreases-loop-rest
decreases-loop-rest l = length l.rest
