-- `read_row::reader::is_legal` meets its contract: a width above 56 is legal just where it is 64.
-- Assumes nothing.
use mathlib.Core.Path.{sym}
use borrow.Author.Tests.{lt-leb}
use Rattle.format.proofs.Widths.{legal_narrow}
use Rattle.read_row.proofs.reader.is_legal.Goals as goal

pub returns-then-bits-le56 : goal.returns-then-bits-le56
returns-then-bits-le56 c = sym (legal_narrow _ c.if-bits-le56.true)

pub returns : goal.returns
returns c = rw (lt-leb _ _ c.if-bits-le56.false)
