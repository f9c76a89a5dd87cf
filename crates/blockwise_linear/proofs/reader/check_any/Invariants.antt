-- The blocks that are left give the rest of the area; the measure is the rows that are left.
-- Assumes nothing.
use Rattle.blockwise_linear.proofs.Passes.{Checking}
use Rattle.blockwise_linear.proofs.reader.check_any.Given as goal

abbrev pub invariant-loop-c : goal.invariant-loop-c
invariant-loop-c l = Checking l.bytes l.fn.place l.c l.longer

abbrev pub decreases-loop-c : goal.decreases-loop-c
decreases-loop-c l = l.c.left
