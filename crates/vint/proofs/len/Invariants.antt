-- It goes as the writer does, over no output at all.
-- Assumes nothing.
use Rattle.std.proofs.Common.{[]}
use Rattle.format.proofs.VarintLoops.{WritingVarint}
use Rattle.vint.proofs.len.Given as goal

abbrev pub invariant-loop-rest : goal.invariant-loop-rest
invariant-loop-rest l = WritingVarint l.fn.v [] 0 [] l.rest l.n

abbrev pub decreases-loop-rest : goal.decreases-loop-rest
decreases-loop-rest l = l.rest
