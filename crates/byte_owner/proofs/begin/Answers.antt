-- `byte_owner::begin` meets its contract: the tests, and then the search in the area.
-- Assumes nothing.
use Rattle.std.proofs.Common.{sym, ◌∙◌}
use Rattle.byte_owner.proofs.Searches.{begins_unfit, begins_early, begins_in}
use Rattle.byte_owner.proofs.begin.Goals as goal

pub returns-then-not-fits_at : goal.returns-then-not-fits_at
returns-then-not-fits_at c =
    rw c.over.ensures (begins_unfit c.args.bytes.now c.args.column c.args.offset (sym c.fits_at.ensures ∙ c.if-not-fits_at.true))

pub returns-then-offset-column : goal.returns-then-offset-column
returns-then-offset-column c =
    rw c.over-then-offset-column.ensures
    (begins_early c.args.bytes.now c.args.column c.args.offset (sym c.fits_at.ensures ∙ c.if-not-fits_at.false) c.if-offset-column.true)

pub returns : goal.returns
returns c =
    rw c.begin_at.ensures
    (begins_in c.args.bytes.now c.args.column c.args.offset (sym c.fits_at.ensures ∙ c.if-not-fits_at.false) c.if-offset-column.false)
