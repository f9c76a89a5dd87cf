-- `blockwise_rows::reader::get_range` meets its contract: the part from the block's start on holds each row's number.
-- Assumes nothing.
use mathlib.Core.Path.{◌∙◌}
use native.Mathlib.Omega.{arith}
use Rattle.format.proofs.Runs.{run_agree}
use Rattle.format.proofs.Widths.{legal_most}
use Rattle.blockwise_rows.proofs.Rows.{row_is}
use Rattle.blockwise_rows.proofs.reader.get_range.Goals as goal

pub slice_bounds-line_run-start : goal.slice_bounds-line_run-start
slice_bounds-line_run-start c = omega (arith, c.numbers_start-start.ensures)

pub overflow_cast-block : goal.overflow_cast-block
overflow_cast-block c = record { fits = omega (arith, legal_most c.args.block.bits c.requires.readable.lawful) }

pub returns : goal.returns
returns c =
    c.line_run.ensures
    ∙ run_agree _ _ _ _ (λ r low high. row_is c.args.column c.args.block c.args.bytes.now (omega arith) c.requires.readable r c.numbers_start-start.ensures)
