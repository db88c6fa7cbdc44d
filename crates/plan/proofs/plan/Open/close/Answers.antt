use Rattle.std.proofs.Common.{refl, subst}
use Rattle.network.specs.Lists.{Mark}
use Rattle.plan.specs.Tables.{rows_of}
use Rattle.plan.proofs.Gathered.{row_mark}
use Rattle.plan.proofs.plan.Open.close.Goals as goal

pub returns : goal.returns
returns g c =
    let t = c.marked-table.result in
    let present = c.marked-table.ensures in
    record {
      house = refl;
      tour = refl;
      present = present;
      marks = λ i r e. subst (λ cs. Mark cs r.cable r.mark) present (row_mark (rows_of t) t.lawful t.marked i r e).1;
    }
