use Rattle.std.proofs.Common.{◌≡◌, Ok, Result, ◌∙◌, rules}
use Rattle.network.specs.declared.refusal.Refusal.{Refusal}
use Rattle.houses.specs.declared.records.Record.{Record}
use Rattle.houses.proofs.Reading.{followed_fine, followed_on}
use Rattle.houses.proofs.sheet.SheetHouse.cable.Goals as goal

pub returns-in_err-record : goal.returns-in_err-record
returns-in_err-record c =
    let l = c.loop-record in
    let s = c.in-Some.ensures.steps in
    let fine = followed_fine c.args.self.now.bytes.now c.args.place l.record-iterator.left.now l.skip c.in-Some.record s.0 s.2 l.invariant in
    let same = fine.1 in absurd (search rules)

pub loop-record-preserved : goal.loop-record-preserved
loop-record-preserved c =
    let l = c.loop-record in
    let s = c.in-Some.ensures.steps in
    let same : ◌≡◌ {A = Result Record Refusal} c.in-Some.record (Ok c.in_ok-record.record) = search rules in
    let t = rw same at s.3 in
    followed_on c.args.self.now.bytes.now c.args.place l.record-iterator.left.now l.skip c.in_ok-record.record c.next.new.self.left.now c.span-more.result s.0
    (s.2 ∙ same) t.0 c.span-more.ensures c.if-skip-more.false l.invariant
