-- The same with no longer spelling; the measure is the rows that are left.
-- Assumes nothing.
use Rattle.std.specs.Prelude.{None}
use Rattle.blockwise_linear.proofs.Passes.{Checking}
use Rattle.blockwise_linear.proofs.reader.check.Given as goal

abbrev pub invariant-loop-c : goal.invariant-loop-c
invariant-loop-c l = Checking l.bytes l.place l.c None

abbrev pub decreases-loop-c : goal.decreases-loop-c
decreases-loop-c l = l.c.left
