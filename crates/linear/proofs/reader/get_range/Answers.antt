-- `linear::reader::get_range` meets its contract: the part from the area's start on holds each row's number.
-- Assumes nothing.
use mathlib.Core.Path.{◌∙◌}
use Rattle.format.proofs.Runs.{run_agree}
use Rattle.linear.proofs.Rows.{row_is}
use Rattle.linear.proofs.reader.get_range.Goals as goal

pub returns : goal.returns
returns c block =
    c.line_run.ensures
    ∙ run_agree _ _ _ _ (λ r low high. row_is c.args.column block c.args.bytes.now c.args.line c.args.bits r c.requires.readable.codec)
