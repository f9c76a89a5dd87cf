-- `bitpacked::reader::get_val` meets its contract: the part from the area's start on holds the row's number, at the width of the count.
-- Assumes nothing.
use mathlib.Core.Path.{ap, ◌∙◌}
use Rattle.format.specs.Packing.{legal}
use Rattle.format.proofs.Widths.{width-legal}
use Rattle.bitpacked.proofs.Rows.{number_is, value_is}
use Rattle.bitpacked.proofs.reader.get_val.Goals as goal

pub get-multiple-requires : goal.get-multiple-requires
get-multiple-requires c = ap legal c.compute_num_bits-width.ensures ∙ width-legal _

pub returns : goal.returns
returns c block =
    let codec = c.requires.codec in
    let number = number_is c.args.column block c.args.bytes.now c.args.row.0 codec c.compute_num_bits-width.ensures c.get-multiple.ensures in
    value_is c.args.column block c.args.bytes.now c.args.row.0 codec number c.scaled.ensures
