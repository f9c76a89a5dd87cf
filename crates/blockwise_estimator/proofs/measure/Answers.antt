-- `measure` meets its contract: what the blocks passed take and what those to come take make the whole; the sums stay below 2^36.
-- Assumes nothing.
use native.Mathlib.Omega.{arith}
use Rattle.blockwise_estimator.proofs.Walks.{measuring_next, measuring_ends}
use borrow.Author.Rules.{rules}
use Rattle.blockwise_estimator.proofs.measure.Goals as goal

pub overflow_add-area : goal.overflow_add-area
overflow_add-area c =
    let next = measuring_next c.loop-at.invariant (search rules) c.part_size-size.ensures c.part_sizes-sizes.ensures in
    omega (arith, next.area_few)

pub overflow_add-footer : goal.overflow_add-footer
overflow_add-footer c =
    let next = measuring_next c.loop-at.invariant (search rules) c.part_size-size.ensures c.part_sizes-sizes.ensures in
    omega (arith, next.footer_few)

pub loop-at-preserved : goal.loop-at-preserved
loop-at-preserved c = measuring_next c.loop-at.invariant (search rules) c.part_size-size.ensures c.part_sizes-sizes.ensures

pub returns : goal.returns
returns c = measuring_ends c.loop-at.invariant (search rules)

-- the last block
pub returns-2 : goal.returns-2
returns-2 c = measuring_ends (measuring_next c.loop-at.invariant (search rules) c.part_size-size.ensures c.part_sizes-sizes.ensures) (omega arith)
