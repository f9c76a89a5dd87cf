-- `bitpacker::field` meets its contract: a mask of the lowest bits is a remainder by a power of two.
-- Assumes nothing.
use Prim.Native.Nat.{ℕ, ◌/◌, ◌^◌}
use mathlib.Core.Path.{ap, ◌∙◌}
use lib.Bits.{bit_and, and_mask}
use Rattle.bitpacker.proofs.field.Goals as goal

pub returns : goal.returns
returns c =
    let x = c.args.word / 2 ^ c.args.shift in
    ap (λ (m : ℕ). bit_and x m) c.mask.ensures ∙ and_mask x c.args.width
