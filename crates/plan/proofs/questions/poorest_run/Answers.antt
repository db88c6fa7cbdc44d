use Rattle.cuts.specs.Members.{set_of}
use Rattle.plan.specs.Rows.{cables_in}
use Rattle.plan.specs.Tables.{rows_of}
use Rattle.plan.proofs.Runs.{run_is}
use Rattle.plan.proofs.questions.poorest_run.Goals as goal

pub returns : goal.returns
returns g c = run_is g.Y.Grade.Grade.over g.Y.Yardstick.graded (cables_in (rows_of c.args.table.now))
    (set_of c.args.devices.now) c.poorest.result (c.poorest.ensures.answer c.requires)
