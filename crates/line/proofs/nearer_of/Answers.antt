-- `line::nearer_of` meets its contract: each branch is one case of `nearer`.
-- Assumes nothing.
use borrow.Author.Tests.{le-leb, lt-leb}
use Rattle.format.specs.Line.{nearer}
use Rattle.line.proofs.nearer_of.Goals as goal

pub returns-then-sub : goal.returns-then-sub
unfolding nearer
returns-then-sub c = simp (le-leb _ _ (rw (c.sub.ensures, c.sub-2.ensures) at c.if-sub.true))

pub returns-else-sub : goal.returns-else-sub
unfolding nearer
returns-else-sub c = simp (lt-leb _ _ (rw (c.sub.ensures, c.sub-2.ensures) at c.if-sub.false))
