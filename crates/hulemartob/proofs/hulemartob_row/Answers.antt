-- `hulemartob::hulemartob_row` meets its contract: a row is read by the block of its number, which only a Blockwise column asks for.
-- Assumes nothing.
use Rattle.hulemartob.proofs.Joining.{by_number}
use Rattle.hulemartob.proofs.hulemartob_row.Goals as goal

pub returns : goal.returns
returns c =
    by_number c.args.column.now c.args.table.now c.args.bytes.now c.args.row c.block_for-k.result c.block_for-k.ensures c.ranges.row.fits c.block_at-block.ensures c.row_by.ensures
