use Rattle.std.proofs.Common.{refl, inl, inr, arith}
use Rattle.plan.specs.Judging.{part_of, Sound}
use Rattle.plan.specs.Tables.{rows_of, table_cables}
use Rattle.plan.proofs.Faults.{row_lawful, leading_all, below_next}
use Rattle.plan.proofs.judging.first_fault.Goals as goal

pub leads_out-requires : goal.leads_out-requires
leads_out-requires c = row_lawful c.rows-row-items.result.now c.rows-row-items.ensures.lawful c.loop-row.row-index c.loop-row-test.true

pub loop-part-preserved : goal.loop-part-preserved
loop-part-preserved c =
    let n = leading_all (part_of c.args.parts.now) c.loop-part.part c.loop-row.leading c.loop-row.row-index c.rows-row-items.result.now (rows_of c.args.table.now) c.rows-row-items.ensures.rows c.loop-row-test.false c.loop-row.invariant.0 in (
      omega arith,
      λ l names. below_next (Sound (table_cables c.args.table.now) l c.args.k (part_of c.args.parts.now)) c.loop-part.part (c.loop-part.invariant.1 l names) (omega (arith, n), c.if-not-is_small.ensures l names),
    )

pub returns-then-part-gt127 : goal.returns-then-part-gt127
returns-then-part-gt127 c = λ l names p h. c.loop-part.invariant.1 l names p (omega (arith, h))

pub returns-then-leading-k : goal.returns-then-leading-k
returns-then-leading-k c =
    let n = leading_all (part_of c.args.parts.now) c.loop-part.part c.loop-row.leading c.loop-row.row-index c.rows-row-items.result.now (rows_of c.args.table.now) c.rows-row-items.ensures.rows c.loop-row-test.false c.loop-row.invariant.0 in
    λ l names. (c.loop-part.part, (omega arith, c.loop-part.invariant.1 l names, inl (refl, omega (arith, n))))

pub returns-then-not-is_small : goal.returns-then-not-is_small
returns-then-not-is_small c =
    let n = leading_all (part_of c.args.parts.now) c.loop-part.part c.loop-row.leading c.loop-row.row-index c.rows-row-items.result.now (rows_of c.args.table.now) c.rows-row-items.ensures.rows c.loop-row-test.false c.loop-row.invariant.0 in
    λ l names. (c.loop-part.part, (omega arith, c.loop-part.invariant.1 l names, inr (refl, omega (arith, n), c.if-not-is_small.ensures l names)))
