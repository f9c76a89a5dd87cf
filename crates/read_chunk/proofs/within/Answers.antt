-- `read_chunk::within` meets its contract: its two tests are the definition's.
-- Assumes nothing.
use borrow.Author.Tests.{le-leb, lt-leb}
use Rattle.read_chunk.proofs.within.Goals as goal

pub returns-then-value-low : goal.returns-then-value-low
returns-then-value-low c = rw (lt-leb _ _ c.if-value-low.true)

pub returns : goal.returns
returns c = rw (le-leb _ _ c.if-value-low.false)
