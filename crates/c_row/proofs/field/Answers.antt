-- `c_row::field` meets its contract: the ones that are left of 64 shifted down are a mask, which is a remainder by a power of two.
-- Assumes nothing.
use Rattle.std.proofs.Common.{ℕ, ◌/◌, ◌^◌, ap, ◌∙◌, bit_and, arith}
use lib.Bits.{and_mask}
use Rattle.c_row.proofs.Numbers.{low_ones}
use Rattle.c_row.proofs.field.Goals as goal

pub returns : goal.returns
returns c =
    let x = c.args.word / 2 ^ c.args.shift in
    ap (λ (m : ℕ). bit_and x m) (low_ones c.args.width (omega arith)) ∙ and_mask x c.args.width
