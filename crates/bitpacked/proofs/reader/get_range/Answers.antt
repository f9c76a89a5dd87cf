-- `bitpacked::reader::get_range` meets its contract: the part from the area's start on holds each row's number, at the width of the count.
-- Assumes nothing.
use mathlib.Core.Path.{ap, ◌∙◌}
use Rattle.format.specs.Packing.{legal}
use Rattle.format.proofs.Runs.{run_agree}
use Rattle.format.proofs.Widths.{width-legal}
use Rattle.bitpacked.proofs.Rows.{row_is}
use Rattle.bitpacked.proofs.reader.get_range.Goals as goal

pub scale_run-requires : goal.scale_run-requires
scale_run-requires c = record { width_value = ap legal c.compute_num_bits-width.ensures ∙ width-legal _; gcd_bound = c.requires.readable.bounds; out_bound = c.requires.out_bound }

pub returns : goal.returns
returns c block =
    c.scale_run.ensures
    ∙ run_agree _ _ _ _ (λ r low high. row_is c.args.column block c.args.bytes.now r c.requires.readable.codec c.compute_num_bits-width.ensures)
