-- `table::row` meets its contract: a row is read by its block as it is by the table.
-- Assumes nothing.
use mathlib.Core.Path.{◌∙◌}
use borrow.Author.Rules.{rules}
use Rattle.table.proofs.Tables.{by_block}
use Rattle.table.proofs.row.Goals as goal

pub returns : goal.returns
returns c = c.row_in.ensures ∙ by_block c.args.column (search rules) c.args.table.now c.args.bytes.now c.args.row.0 c.block_of-k.ensures c.block_at-block.ensures
