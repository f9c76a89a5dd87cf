-- `vint::read` meets its contract, by what the loop keeps and what the tenth byte says.
-- Assumes nothing.
use Rattle.std.proofs.Common.{◌-◌, sym, arith}
use Rattle.format.proofs.VarintLoops.{reading_ends, reading_more, reading_last, scale_small, digit_fits}
use Rattle.vint.proofs.LastBytes.{tenth_is}
use Rattle.vint.proofs.read.Goals as goal

pub returns-then-s-pos : goal.returns-then-s-pos
returns-then-s-pos c = sym (reading_ends c.loop-used.invariant c.if-s-pos.true)

pub overflow_mul-result : goal.overflow_mul-result
overflow_mul-result c =
    omega (arith, digit_fits c.loop-used.invariant (c.wide-b.result - 128) (omega arith) (omega (arith, c.type_inv.s c.loop-used.pos)))

pub overflow_add-result : goal.overflow_add-result
overflow_add-result c =
    omega (arith, digit_fits c.loop-used.invariant (c.wide-b.result - 128) (omega arith) (omega (arith, c.type_inv.s c.loop-used.pos)))

pub returns-then-b-ge128 : goal.returns-then-b-ge128
returns-then-b-ge128 c =
    let fits = digit_fits c.loop-used.invariant (c.wide-b.result - 128) (omega arith) (omega (arith, c.type_inv.s c.loop-used.pos)) in
    rw c.spelled.ensures
    (sym
    (reading_last c.loop-used.invariant _ c.if-s-pos.false (omega arith) (omega (arith, c.type_inv.s c.loop-used.pos)) (rw c.wide-b.ensures) (omega (arith, fits))))

pub overflow_mul-number : goal.overflow_mul-number
overflow_mul-number c = omega (arith, digit_fits c.loop-used.invariant c.wide-b.result (omega arith) c.if-b-ge128.false)

pub overflow_add-number : goal.overflow_add-number
overflow_add-number c = omega (arith, digit_fits c.loop-used.invariant c.wide-b.result (omega arith) c.if-b-ge128.false)

pub overflow_mul-scale : goal.overflow_mul-scale
overflow_mul-scale c = omega (arith, scale_small c.loop-used.invariant (omega arith))

pub loop-used-preserved : goal.loop-used-preserved
loop-used-preserved c =
    reading_more c.loop-used.invariant c.wide-b.result c.wide-b.ensures (omega arith) c.if-s-pos.false c.if-b-ge128.false

pub returns : goal.returns
returns c = rw c.tenth.ensures (tenth_is c.loop-used.invariant c.loop-used-test.false)
