use Rattle.std.proofs.Common.{sym, subst}
use Rattle.cuts.specs.Members.{set_of}
use Rattle.plan.specs.Grading.{mark_at}
use Rattle.plan.specs.Strengths.{Joining}
use Rattle.plan.specs.Tables.{rows_of, table_cables}
use Rattle.plan.proofs.Strengths.{joining_of}
use Rattle.plan.proofs.strength.joining_mark.Goals as goal

pub returns : goal.returns
returns c =
    let t = c.args.table.now in
    let mark = mark_at (rows_of t) in
    let D = set_of c.args.devices.now in
    subst (Joining (table_cables t) mark D) (sym c.unwrap_or.ensures) (joining_of (table_cables t) mark D c.poorest.result (c.poorest.ensures.answer c.requires))
