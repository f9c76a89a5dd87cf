-- `saving::saving_of` meets its contract: an exponent of at most 64 and fewer than 2^32 rows keep the quotient small, so that its cut is defined.
-- Assumes nothing.
use Rattle.std.proofs.Common.{◌^◌, arith, le→leb}
use lib.Ieee.{of_bits, in_float}
use Rattle.format.proofs.Savings.{exponent_most}
use Rattle.float.proofs.Searching.{saving_small, saving_is}
use Rattle.float.proofs.saving.saving_of.Goals as goal

pub int_to_float-e : goal.int_to_float-e
unfolding in_float
int_to_float-e c = le→leb c.exponent-e.result (2 ^ 24) (omega (arith, c.exponent-e.ensures, exponent_most c.args.gcd))

pub truncating_f32_to_u64-requires : goal.truncating_f32_to_u64-requires
unfolding of_bits
truncating_f32_to_u64-requires c =
    let small = saving_small _ _ _ _ c.exponent-e.ensures c.nearest_u32_to_f32.ensures c.ranges.rows.fits in
    record { lower_bound = small.0; upper_bound = small.1 }

pub returns : goal.returns
unfolding of_bits
returns c = saving_is _ _ _ _ _ c.exponent-e.ensures c.nearest_u32_to_f32.ensures c.ranges.rows.fits c.truncating_f32_to_u64.ensures
