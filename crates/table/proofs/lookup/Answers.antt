-- `table::lookup` meets its contract: where the walk is over, its answer is what the lookup finds.
-- Assumes nothing.
use Rattle.read_walk.proofs.Walking.{is_over}
use Rattle.table.proofs.lookup.Goals as goal

pub returns : goal.returns
returns c = c.answer.ensures _ _ _ (is_over c.loop-w.invariant c.loop-w-test.false)
