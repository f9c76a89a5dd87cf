-- `blockwise_linear::short::entry_at` meets its contract: the numbers that were read, and the tests passed, say that `read_fields` has them.
-- Assumes nothing.
use Rattle.std.proofs.Common.{refl, get_or}
use borrow.Author.Tests.{not-false}
use Rattle.format.specs.Opening.{read_fields}
use Rattle.format.proofs.LineFields.{width_from}
use Rattle.blockwise_linear.proofs.short.entry_at.Goals as goal

pub returns : goal.returns
unfolding read_fields
returns c told =
    let bytes = c.args.s.now in
    let place = c.number_at-intercept.result.next in
    let bits = get_or bytes place 0 in
    rw (
      c.number_at-slope.ensures (not-false _ c.if-not-slope.false),
      c.number_at-intercept.ensures (not-false _ c.if-not-intercept.false),
      width_from bytes place bits (record { within = c.if-s-place.false; byte = refl; lawful = c.lawful.ensures c.if-not-lawful.false }),
    )
