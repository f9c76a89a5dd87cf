-- `read_lookup::is_told` meets its contract: a second pass has its answer.
-- Assumes nothing.
use borrow.Author.Tests.{not-false}
use Rattle.read_lookup.proofs.is_told.Goals as goal

pub returns-in-Ok : goal.returns-in-Ok
returns-in-Ok c = λ test read window o before f. c.is_done.ensures test read window o before (not-false _ c.if-not-w.false) c.if-w-le512.false c.in-Ok.is f
