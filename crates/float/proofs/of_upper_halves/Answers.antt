-- `float::of_upper_halves` meets its contract: each half is below 2 ^ 24, so it is a float exactly, and so is its product by a power of two; the sum rounds once.
-- Assumes nothing.
use Rattle.std.proofs.Common.{◌/◌, ◌%◌, ◌^◌, arith, le→leb}
use lib.Ieee.{in_float, of_bits}
use Rattle.float.proofs.Values.{upper_halves}
use Rattle.float.proofs.of_upper_halves.Goals as goal

pub int_to_float-result : goal.int_to_float-result
unfolding in_float
int_to_float-result c = le→leb (c.args.n / 2 ^ 24) (2 ^ 24) (omega arith)

pub int_to_float-result-2 : goal.int_to_float-result-2
unfolding in_float
int_to_float-result-2 c = le→leb (c.args.n % 2 ^ 24) (2 ^ 24) (omega arith)

pub returns : goal.returns
unfolding of_bits
returns c = upper_halves c.args.n c.requires
