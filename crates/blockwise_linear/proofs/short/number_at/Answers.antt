-- `blockwise_linear::short::number_at` meets its contract, by what the loop keeps.
-- Assumes nothing.
use Rattle.std.proofs.Common.{refl, ◌-◌, arith}
use borrow.Author.Tests.{eqb-true}
use Rattle.format.proofs.VarintLoops.{reading_more, scale_small, digit_fits}
use Rattle.blockwise_linear.proofs.Shorts.{number_ends, tenth_bit}
use Rattle.blockwise_linear.proofs.short.number_at.Goals as goal

pub overflow_mul-result : goal.overflow_mul-result
overflow_mul-result c =
    omega (arith, digit_fits c.loop-used.invariant (c.wide-b.result - 128) (omega arith) (omega (arith, c.type_inv.s c.loop-used.pos)))

pub overflow_add-result : goal.overflow_add-result
overflow_add-result c =
    omega (arith, digit_fits c.loop-used.invariant (c.wide-b.result - 128) (omega arith) (omega (arith, c.type_inv.s c.loop-used.pos)))

pub returns-then-b-ge128 : goal.returns-then-b-ge128
returns-then-b-ge128 c told =
    let fits = digit_fits c.loop-used.invariant (c.wide-b.result - 128) (omega arith) (omega (arith, c.type_inv.s c.loop-used.pos)) in
    number_ends c.loop-used.invariant _ c.if-s-pos.false c.wide-b.ensures c.if-b-ge128.true (omega (arith, c.type_inv.s c.loop-used.pos)) refl (omega (arith, fits)) (c.shortest.ensures told _)

pub overflow_mul-number : goal.overflow_mul-number
overflow_mul-number c = omega (arith, digit_fits c.loop-used.invariant c.wide-b.result (omega arith) c.if-b-ge128.false)

pub overflow_add-number : goal.overflow_add-number
overflow_add-number c = omega (arith, digit_fits c.loop-used.invariant c.wide-b.result (omega arith) c.if-b-ge128.false)

pub overflow_mul-scale : goal.overflow_mul-scale
overflow_mul-scale c = omega (arith, scale_small c.loop-used.invariant (omega arith))

pub loop-used-preserved : goal.loop-used-preserved
loop-used-preserved c =
    reading_more c.loop-used.invariant c.wide-b.result c.wide-b.ensures (omega arith) c.if-s-pos.false c.if-b-ge128.false

pub returns : goal.returns
returns c told = tenth_bit c.loop-used.invariant _ (omega arith) c.loop-used-test.false (eqb-true _ _ told) refl
