use Rattle.std.proofs.Common.{◌≡◌, rules}
use Rattle.std.specs.List.{fold}
use Rattle.plan.specs.Tables.{rows_of}
use Rattle.plan.proofs.Touches.{higher, fold_highest}
use Rattle.plan.proofs.strength.highest_mark.Goals as goal

pub returns : goal.returns
returns c =
    let rows = rows_of c.args.table.now in
    let is : c.fold.result ≡ fold (higher rows c.args.device) 0 rows = search rules in
    fold_highest rows c.args.device c.fold.result is
