-- `read_row::reader::column_fits` meets its contract: its tests are the definition's.
-- Assumes nothing.
use mathlib.Core.Path.{refl, sym, ◌∙◌}
use native.Mathlib.Omega.{arith}
use borrow.Author.Tests.{lt-ltb, le-ltb}
use Rattle.read_row.proofs.Fitting.{column_tested}
use Rattle.read_row.proofs.reader.column_fits.Goals as goal

pub returns-then-not-window_fits : goal.returns-then-not-window_fits
returns-then-not-window_fits c = column_tested _ _ (sym c.window_fits.ensures ∙ c.if-not-window_fits.true) refl refl refl

pub returns-then-column-eq0 : goal.returns-then-column-eq0
returns-then-column-eq0 c = column_tested _ _ (sym c.window_fits.ensures ∙ c.if-not-window_fits.false) (le-ltb 0 c.args.column.gcd (omega arith)) refl refl

pub returns-then-not-bounds_fit : goal.returns-then-not-bounds_fit
returns-then-not-bounds_fit c = column_tested _ _ (sym c.window_fits.ensures ∙ c.if-not-window_fits.false) (lt-ltb 0 c.args.column.gcd (omega arith)) (sym c.bounds_fit.ensures ∙ c.if-not-bounds_fit.true) refl

pub returns : goal.returns
returns c = c.ends_within.ensures ∙ column_tested _ _ (sym c.window_fits.ensures ∙ c.if-not-window_fits.false) (lt-ltb 0 c.args.column.gcd (omega arith)) (sym c.bounds_fit.ensures ∙ c.if-not-bounds_fit.false) refl
