-- `read_row::reader::fits` meets its contract: both parts of the test are the definition's.
-- Assumes nothing.
use mathlib.Core.Path.{refl, sym, ◌∙◌}
use borrow.Author.Tests.{not-true, not-false}
use Rattle.read_row.proofs.Fitting.{both_tested}
use Rattle.read_row.proofs.reader.fits.Goals as goal

pub returns-then-not-column_fits : goal.returns-then-not-column_fits
returns-then-not-column_fits c = both_tested _ _ _ _ _ (sym c.column_fits.ensures ∙ not-true _ c.if-not-column_fits.true-raw) refl

pub returns : goal.returns
returns c = c.row_fits.ensures ∙ both_tested _ _ _ _ _ (sym c.column_fits.ensures ∙ not-false _ c.if-not-column_fits.false-raw) refl
