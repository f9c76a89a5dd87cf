-- `blockwise_linear::short::step` meets its contract: the part up to the footer's end has the fields, and the sums are `step_of`'s.
-- Assumes nothing.
use Rattle.std.proofs.Common.{◌≡◌, ◌-◌, min, arith}
use borrow.Author.Tests.{not-false}
use Rattle.format.specs.Outcome.{Outcome.value}
use Rattle.format.specs.Opening.{read_fields}
use Rattle.format.proofs.Widths.{legal_most}
use Rattle.format.proofs.LineFields.{fields_read}
use Rattle.blockwise_linear.specs.Reader.{up_to_length, step_in}
use Rattle.blockwise_linear.specs.Short.{short_fields}
use Rattle.blockwise_linear.proofs.short.step.Goals as goal

pub packed_len-requires : goal.packed_len-requires
packed_len-requires c =
    let told : read_fields (up_to_length c.args.bytes.now) c.args.c.at ≡ value (short_fields c.entry_at-e.result) = rw (← c.footer_end-end.ensures) (c.entry_at-e.ensures (not-false _ c.if-not-e.false)) in
    (omega (arith, c.block_rows-rows.ensures), legal_most c.entry_at-e.result.bits (fields_read (up_to_length c.args.bytes.now) c.args.c.at (short_fields c.entry_at-e.result) told).lawful)

pub returns : goal.returns
unfolding step_in
returns c told =
    let left : c.args.c.left - min c.args.c.left 512 ≡ c.args.c.left - 512 = omega arith in
    rw (← c.footer_end-end.ensures, c.entry_at-e.ensures (not-false _ c.if-not-e.false), c.packed_len.ensures, c.block_rows-rows.ensures, left)
