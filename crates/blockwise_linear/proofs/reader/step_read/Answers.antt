-- `blockwise_linear::reader::step_read` meets its contract: a width that was read is legal.
-- Assumes nothing.
use Rattle.std.proofs.Common.{◌≡◌, sym, arith}
use Rattle.format.specs.Outcome.{Outcome.value}
use Rattle.format.specs.Opening.{read_fields}
use Rattle.format.proofs.Widths.{legal_most}
use Rattle.format.proofs.LineFields.{fields_read}
use Rattle.blockwise_linear.specs.Reader.{up_to_length}
use Rattle.blockwise_linear.proofs.reader.step_read.Goals as goal

pub packed_len-requires : goal.packed_len-requires
packed_len-requires c =
    let told : read_fields (up_to_length c.args.bytes.now) c.args.c.at ≡ value c.in_ok-fields.fields = sym c.in_ok-fields.ensures in
    (omega (arith, c.block_rows-rows.ensures), legal_most c.in_ok-fields.fields.bits (fields_read (up_to_length c.args.bytes.now) c.args.c.at c.in_ok-fields.fields told).lawful)
