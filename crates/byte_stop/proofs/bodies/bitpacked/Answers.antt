-- `byte_stop::bodies::bitpacked` meets its contract: a width that a count asks for is no more than 64 bits.
-- Assumes nothing.
use Rattle.std.proofs.Common.{arith}
use Rattle.format.proofs.Widths.{width_most}
use Rattle.byte_stop.proofs.bodies.bitpacked.Goals as goal

pub packed_len-size-requires : goal.packed_len-size-requires
packed_len-size-requires c = (omega arith, rw c.compute_num_bits-width.ensures (width_most c.args.head.count))
