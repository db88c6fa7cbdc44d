use Rattle.std.proofs.Common.{Some, None, subst}
use Rattle.plan.specs.Tables.{closed_cables}
use Rattle.plan.specs.Judging.{part_of, FirstFault}
use Rattle.plan.proofs.Verdicts.{parts_low, sheet_fits, judge_faulty, judge_good}
use Rattle.plan.proofs.plan.Closed.judge.Goals as goal

pub returns-in-Some : goal.returns-in-Some
returns-in-Some g c =
    let s = c.args.self.now in
    let l = c.args.list.now in
    let fit = c.in_ok-devices.ensures in
    let good = c.in_ok-parts.ensures in
    judge_faulty (closed_cables s) l c.args.k c.args.sheet.now s.table.lawful c.in-Some.fault (sheet_fits l c.args.sheet.now fit.0 good.0)
    (subst (λ parts. FirstFault (closed_cables s) l c.args.k (part_of parts) (Some c.in-Some.fault)) good.1 (c.in-Some.ensures l fit.1))

pub returns-in-None : goal.returns-in-None
returns-in-None g c =
    let s = c.args.self.now in
    let l = c.args.list.now in
    let fit = c.in_ok-devices.ensures in
    let good = c.in_ok-parts.ensures in
    judge_good (closed_cables s) l c.args.k c.args.sheet.now s.table.lawful (sheet_fits l c.args.sheet.now fit.0 good.0) (parts_low c.args.sheet.now good.0)
    (subst (λ parts. FirstFault (closed_cables s) l c.args.k (part_of parts) None) good.1 (c.in-None.ensures l fit.1))
