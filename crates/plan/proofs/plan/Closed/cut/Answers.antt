use Rattle.std.proofs.Common.{ltb, length, Ok, sym, subst, ◌∙◌}
use Rattle.network.specs.declared.refusal.Refusal.TheVariants.{BufferTooShort}
use Rattle.network.specs.Lists.{ListStrength}
use Rattle.network.specs.Refusals.{refuse}
use Rattle.network.specs.Sheets.{GoodSheet}
use Rattle.plan.specs.Questions.{CutIs}
use Rattle.plan.specs.Tests.{buffer_check}
use Rattle.plan.specs.Tables.{closed_cables}
use Rattle.plan.specs.Judging.{part_of}
use Rattle.plan.proofs.Checking.{listed_one, names_devices, buffer_tested, roomy, gives_err, refused_gives, refused_writes}
use Rattle.plan.proofs.CutAnswers.{cut_answer, cut_accepted, refused_accepted}
use Rattle.plan.proofs.plan.Closed.cut.Goals as goal

pub returns-in_err-devices : goal.returns-in_err-devices
returns-in_err-devices g c =
    let l = c.args.list.now in
    let b = c.args.buffer.now in
    let e = c.in_err-devices.field-0.0 in
    let r = c.from_residual.result in
    let exit = c.from_residual.ensures.1 in
    record {
      answer = record {
        answer = refused_gives l (refuse BufferTooShort (ltb (length b) 128) (Ok tt)) (CutIs (closed_cables c.args.self.now) l b) e r exit c.in_err-devices.ensures;
        buffer = refused_writes e r b exit;
      };
      accepted = refused_accepted (closed_cables c.args.self.now) l b e r exit;
    }

pub returns-in_err-has_room : goal.returns-in_err-has_room
returns-in_err-has_room g c =
    let l = c.args.list.now in
    let b = c.args.buffer.now in
    let e = c.in_err-has_room.field-0.0 in
    let r = c.from_residual-in_err-has_room.result in
    let exit = c.from_residual-in_err-has_room.ensures.1 in
    record {
      answer = record {
        answer = gives_err (CutIs (closed_cables c.args.self.now) l b) (buffer_check l (length b)) e r exit (buffer_tested l (length b) c.in_ok-devices.ensures.0 ∙ sym c.in_err-has_room.ensures);
        buffer = refused_writes e r b exit;
      };
      accepted = refused_accepted (closed_cables c.args.self.now) l b e r exit;
    }

pub returns : goal.returns
returns g c =
    let s = c.args.self.now in
    let l = c.args.list.now in
    let fit = c.in_ok-devices.ensures in
    let sheet = c.own_sheet-sheet.result in
    let x = listed_one l fit.0 in
    let same = c.rig.ensures in
    let strength = subst (λ cs. ListStrength cs l sheet.strength) same (c.own_sheet-sheet.ensures.strength l fit.1 x.0 x.1) in
    let good = subst (λ cs. GoodSheet cs l sheet.strength (part_of sheet.parts)) same (c.own_sheet-sheet.ensures.good l fit.1 x.0 x.1) in
    let devices = names_devices c.in_ok-devices.devices l fit.1 in
    let w = c.write_first.ensures in
    let room = roomy (length c.args.buffer.now) (sym c.in_ok-has_room.ensures) in
    record {
      answer = cut_answer (closed_cables s) l sheet.strength c.args.buffer.now c.write_first.new.buffer sheet.parts s.table.lawful devices fit.0 room c.write_first.auto.buffer w.first w.later strength c.own_sheet-sheet.ensures.low good;
      accepted = cut_accepted (closed_cables s) l sheet.strength c.args.buffer.now c.write_first.new.buffer sheet.parts s.table.lawful devices fit.0 room c.write_first.auto.buffer w.first w.later strength c.own_sheet-sheet.ensures.low good;
    }
