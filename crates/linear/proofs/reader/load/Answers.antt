-- `linear::reader::load` meets its contract: a width that was read is legal.
-- Assumes nothing.
use Rattle.std.proofs.Common.{sym, arith}
use Rattle.format.proofs.Widths.{legal_most}
use Rattle.format.proofs.LineFields.{fields_read}
use Rattle.linear.proofs.reader.load.Goals as goal

pub packed_len-size-requires : goal.packed_len-size-requires
packed_len-size-requires c =
    let fields = fields_read c.args.bytes.now c.args.head.next c.in_ok-fields.fields (sym c.in_ok-fields.ensures) in
    (omega arith, legal_most c.in_ok-fields.fields.bits fields.lawful)
