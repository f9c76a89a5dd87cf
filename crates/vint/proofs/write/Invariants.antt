-- The measure is what is still to be spelled.
-- Assumes nothing.
use Rattle.format.proofs.VarintLoops.{WritingVarint}
use Rattle.vint.proofs.write.Given as goal

abbrev pub invariant-loop-rest : goal.invariant-loop-rest
invariant-loop-rest l = WritingVarint l.fn.v l.fn.out l.at l.out l.rest l.pos

abbrev pub decreases-loop-rest : goal.decreases-loop-rest
decreases-loop-rest l = l.rest
