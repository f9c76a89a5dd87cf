-- The first k blocks are filled in, and c is the next block's place.
use Rattle.blockwise_linear.proofs.Passes.{BlocksPut}
use Rattle.table.proofs.fill.Given as goal

abbrev pub invariant-loop-c : goal.invariant-loop-c
invariant-loop-c l = BlocksPut l.bytes l.rows l.initial.table l.c l.k l.table

abbrev pub decreases-loop-c : goal.decreases-loop-c
decreases-loop-c l = l.c.left
