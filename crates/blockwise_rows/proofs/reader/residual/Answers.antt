-- `blockwise_rows::reader::residual` meets its contract: the part from the block's start on holds the row's number.
-- Assumes nothing.
use mathlib.Core.Path.{◌∙◌}
use native.Mathlib.Omega.{arith}
use Rattle.format.proofs.Widths.{legal_most}
use Rattle.blockwise_rows.proofs.Rows.{number_is}
use Rattle.blockwise_rows.proofs.reader.residual.Goals as goal

pub slice_bounds-get-start : goal.slice_bounds-get-start
slice_bounds-get-start c = omega (arith, c.numbers_start-start.ensures)

pub overflow_cast-block : goal.overflow_cast-block
overflow_cast-block c = record { fits = omega (arith, legal_most c.args.block.bits c.requires.lawful) }

pub returns : goal.returns
returns c =
    c.get.ensures
    ∙ number_is c.args.column c.args.block c.args.bytes.now (omega arith) c.requires _ c.numbers_start-start.ensures
