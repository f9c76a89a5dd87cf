-- `c_row::bits_of` meets its contract: what the leading zeros leave of 64 is the bit length, and a number above 0 has a bit.
-- Assumes nothing.
use Rattle.std.proofs.Common.{arith}
use lib.Count.{leading_le}
use Rattle.format.proofs.Widths.{bit_length-leading}
use Rattle.c_row.proofs.Numbers.{some_bits}
use Rattle.c_row.proofs.bits_of.Goals as goal

pub returns : goal.returns
returns c = omega (arith, bit_length-leading c.args.n c.ranges.n.fits, some_bits c.args.n c.requires, leading_le 64 c.args.n)
