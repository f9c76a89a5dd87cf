-- `bitpacker::compute_num_bits` meets its contract: what the leading zeros leave of 64 is the bit length, and the test picks the case of `width`.
-- Assumes nothing.
use Prim.Native.Nat.{◌≤◌, ◌<◌}
use mathlib.Core.Path.{sym, ◌∙◌}
use native.Mathlib.Omega.{arith}
use lib.Count.{leading_le}
use Rattle.format.specs.Packing.{bit_length}
use Rattle.format.proofs.Widths.{bit_length-leading, width_narrow, width_full}
use Rattle.bitpacker.proofs.compute_num_bits.Goals as goal

pub overflow_sub-bits : goal.overflow_sub-bits
overflow_sub-bits c = leading_le 64 c.args.n

pub returns-then-bits-le56 : goal.returns-then-bits-le56
returns-then-bits-le56 c =
    let n = c.args.n in
    let is = bit_length-leading n c.ranges.n.fits in
    let few : bit_length n ≤ 56 = omega arith in
    is ∙ sym (width_narrow n few)

pub returns-else-bits-le56 : goal.returns-else-bits-le56
returns-else-bits-le56 c =
    let n = c.args.n in
    let is = bit_length-leading n c.ranges.n.fits in
    let many : 56 < bit_length n = omega arith in
    sym (width_full n many)
