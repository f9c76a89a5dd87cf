-- `load` meets its contract: the block is filled from the left with the values from `at` on, each normalised; none is below the minimum.
-- Assumes nothing.
use Prim.Native.Nat.{ℕ, ◌+◌, ◌-◌, ◌/◌, ◌<◌}
use mathlib.Core.Path.{ap, ◌∙◌}
use native.Mathlib.Omega.{arith}
use lib.ListN.{length}
use Rattle.format.specs.Typed.{stored_as}
use Rattle.format.proofs.StoredLists.{stored-length, stored_is, stored_there}
use Rattle.blockwise_estimator.specs.Writer.{normal}
use Rattle.blockwise_estimator.proofs.Filled.{loaded_more, filled-ends}
use Rattle.blockwise_estimator.proofs.load.Goals as goal

pub overflow_sub-v : goal.overflow_sub-v
overflow_sub-v c =
    let inside : c.args.at + c.loop-i.i < length c.args.values.now = omega (arith, c.loop-i.invariant.same, c.requires.block_in_bounds) in
    rw (stored_is c.args.kind c.args.values.now (c.args.at + c.loop-i.i) inside c.stored_of-v.ensures)
    (c.requires.above.each _ (stored_there c.args.kind c.args.values.now (c.args.at + c.loop-i.i) inside))

pub loop-i-preserved : goal.loop-i-preserved
loop-i-preserved c =
    let by = c.ready-by.ensures.0 in
    let inside : c.args.at + c.loop-i.i < length c.args.values.now = omega (arith, c.loop-i.invariant.same, c.requires.block_in_bounds) in
    let is = stored_is c.args.kind c.args.values.now (c.args.at + c.loop-i.i) inside c.stored_of-v.ensures in
    loaded_more (normal c.args.minimum c.args.gcd) (stored_as c.args.kind c.args.values.now) c.args.block.now c.args.at
    (rw (stored-length c.args.kind c.args.values.now) c.requires.block_in_bounds) c.loop-i.invariant (omega (arith, c.loop-i.invariant.same))
    (c.quotient.ensures ∙ ap (λ (g : ℕ). (c.stored_of-v.result - c.args.minimum) / g) by ∙ ap (normal c.args.minimum c.args.gcd) is)

pub returns : goal.returns
returns c = filled-ends c.loop-i.invariant (omega (arith, c.loop-i.invariant.same))
