-- `bitpacked::reader::load` meets its contract: size and test are `open_bitpacked`'s own.
-- Assumes nothing.
use mathlib.Core.Path.{◌≡◌, sym, ◌∙◌}
use Prim.Native.Nat.{◌+◌, ◌*◌}
use native.Mathlib.Omega.{arith}
use lib.Dec.{leb}
use lib.ListN.{length}
use Rattle.format.specs.Word.{bytes_for}
use Rattle.format.specs.Packing.{width}
use Rattle.format.specs.Opening.{open_bitpacked}
use Rattle.format.proofs.Widths.{width_most}
use Rattle.bitpacked.proofs.reader.load.Goals as goal

pub packed_len-size-requires : goal.packed_len-size-requires
packed_len-size-requires c = (omega arith, rw c.compute_num_bits-width.ensures (width_most c.args.head.count))

pub returns-then-not-ends_within : goal.returns-then-not-ends_within
unfolding open_bitpacked
returns-then-not-ends_within c =
    let size : c.packed_len-size.result ≡ bytes_for (width c.args.head.count * c.args.head.rows) = rw (← c.compute_num_bits-width.ensures) c.packed_len-size.ensures in
    let test : leb (c.args.head.next + bytes_for (width c.args.head.count * c.args.head.rows)) (length c.args.bytes.now) ≡ c.ends_within.result = rw (← size) (sym c.ends_within.ensures) in
    rw (test ∙ c.if-not-ends_within.true)

pub returns : goal.returns
unfolding open_bitpacked
returns c =
    let size : c.packed_len-size.result ≡ bytes_for (width c.args.head.count * c.args.head.rows) = rw (← c.compute_num_bits-width.ensures) c.packed_len-size.ensures in
    let test : leb (c.args.head.next + bytes_for (width c.args.head.count * c.args.head.rows)) (length c.args.bytes.now) ≡ c.ends_within.result = rw (← size) (sym c.ends_within.ensures) in
    rw (test ∙ c.if-not-ends_within.false, c.column-column.ensures, size)
