use Rattle.plan.proofs.Gathered.{row_told}
use Rattle.plan.proofs.plan.Closed.mark.Goals as goal

pub returns : goal.returns
returns g c =
    let t = c.args.self.now.table in
    let told = row_told t.rows.items t.lawful t.marked c.args.place c.row.result c.row.ensures in
    record { answer = told.0; mark = told.1 }
