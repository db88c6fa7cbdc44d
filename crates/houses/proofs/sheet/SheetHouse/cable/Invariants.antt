use Rattle.houses.proofs.Reading.{Followed}
use Rattle.houses.proofs.sheet.SheetHouse.cable.Given as goal

abbrev pub invariant-loop-record : goal.invariant-loop-record
invariant-loop-record l = Followed l.self.bytes.now l.place l.record-iterator.left.now l.skip
