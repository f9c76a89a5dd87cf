-- k blocks are behind the place; the measure is the rows that are left.
-- Assumes nothing.
use Rattle.byte_stop.proofs.Blocking.{Blocking}
use Rattle.byte_stop.proofs.bodies.blocks.Given as goal

abbrev pub invariant-loop-c : goal.invariant-loop-c
invariant-loop-c l = Blocking l.bytes l.fn.place l.c l.k

abbrev pub decreases-loop-c : goal.decreases-loop-c
decreases-loop-c l = l.c.left
