-- `blockwise_linear::reader::footer_last` meets its contract, by what the loop keeps.
-- Assumes nothing.
use Rattle.std.proofs.Common.{rules, sym, ap, arith}
use Rattle.blockwise_linear.specs.declared.reader.Cursor.{Cursor}
use Rattle.blockwise_linear.proofs.Lasts.{ending_more, ending_refused, ending-ends, last_refused, last_found}
use Rattle.blockwise_linear.proofs.reader.footer_last.Goals as goal

pub returns-in_err-fields : goal.returns-in_err-fields
returns-in_err-fields c =
    let refused =
    sym
    (last_refused c.args.bytes.now c.args.rows _ (ap (λ (f : Cursor). f.at) c.first-start.ensures) _ _
    (ending_refused c.loop.invariant _ _ (omega (arith, c.block_count-blocks.ensures)) (sym c.in_err-fields.ensures))) in
    search rules

pub loop-preserved : goal.loop-preserved
loop-preserved c = ending_more c.loop.invariant _ (omega (arith, c.block_count-blocks.ensures)) (sym c.in_ok-fields.ensures)

pub returns : goal.returns
returns c =
    sym
    (last_found c.args.bytes.now c.args.rows _ (ap (λ (f : Cursor). f.at) c.first-start.ensures) _ _ _ c.footer_end-end.ensures
    (ending-ends c.loop.invariant (omega (arith, c.block_count-blocks.ensures))))
