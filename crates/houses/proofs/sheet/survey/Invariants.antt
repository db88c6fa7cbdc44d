use Rattle.houses.proofs.Reading.{Surveyed}
use Rattle.houses.proofs.sheet.survey.Given as goal

abbrev pub invariant-loop-place : goal.invariant-loop-place
invariant-loop-place l = Surveyed l.bytes l.place-iterator.place l.count l.place-iterator.left.now
