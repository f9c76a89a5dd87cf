-- The bytes before `pos` are read, and none of them ends the varint.
-- Assumes nothing.
use Rattle.format.proofs.VarintLoops.{ReadingVarint}
use Rattle.vint.proofs.read.Given as goal

abbrev pub invariant-loop-used : goal.invariant-loop-used
invariant-loop-used l = ReadingVarint l.s l.at l.number l.scale l.pos l.used
