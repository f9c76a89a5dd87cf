-- `table::fill` meets its contract: each turn puts a block behind those that are there.
-- Assumes nothing.
use native.Mathlib.Omega.{arith}
use Rattle.blockwise_linear.proofs.Passes.{step_less, filling_good, filling_more, filling_ends}
use Rattle.table.proofs.fill.Goals as goal

pub next_block-step-requires-clause-good : goal.next_block-step-requires-clause-good
next_block-step-requires-clause-good c = filling_good c.loop-c.invariant c.loop-c-test.true

pub loop-c-smaller : goal.loop-c-smaller
loop-c-smaller c = omega (arith, step_less _ _ _ c.next_block-step.ensures, c.loop-c-test.true)

pub loop-c-preserved : goal.loop-c-preserved
loop-c-preserved c = filling_more c.loop-c.invariant _ c.next_block-step.ensures c.loop-c-test.true

pub returns : goal.returns
returns c = filling_ends c.loop-c.invariant c.loop-c-test.false
