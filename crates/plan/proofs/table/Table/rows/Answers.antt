use Rattle.std.proofs.Common.{sym, subst}
use Rattle.network.specs.Cables.{Lawful}
use Rattle.plan.specs.Rows.{cables_in}
use Rattle.plan.proofs.table.Table.rows.Goals as goal

pub returns-clause-lawful : goal.returns-clause-lawful
returns-clause-lawful c = subst (λ rows. Lawful (cables_in rows)) (sym c.as_slice.ensures.value) c.args.self.now.lawful
