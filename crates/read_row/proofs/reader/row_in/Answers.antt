-- `read_row::reader::row_in` meets its contract: its tests are the definition's, at the column's row.
-- Assumes nothing.
use Prim.Native.Nat.{ℕ, ◌^◌, ◌<◌}
use mathlib.Core.Path.{sym, ap, ◌∙◌, subst}
use native.Mathlib.Omega.{arith}
use borrow.Author.Tests.{lt-ltb, le-ltb}
use Rattle.format.specs.Reading.{place_of, fits, row_in}
use Rattle.read_row.specs.Chunks.{Fitting}
use Rattle.read_row.proofs.Fitting.{fitting, fitting_window}
use Rattle.read_row.proofs.Moving.{not_moved, moved-fits}
use borrow.Author.Rules.{rules}
use Rattle.read_row.proofs.reader.row_in.Goals as goal

pub returns-then-column-row : goal.returns-then-column-row
unfolding row_in
returns-then-column-row c = rw (le-ltb _ _ c.if-column-row.true)

pub returns-then-not-fits : goal.returns-then-not-fits
unfolding row_in
returns-then-not-fits c =
    let few : c.args.column.rows < 2 ^ 32 = search rules in
    let tested = c.fits.ensures ∙ ap (fits c.args.column c.args.blocks c.args.block c.args.bytes.now) c.column_row-at.ensures ∙ moved-fits c.args.column few c.args.row.0 c.args.blocks c.args.block c.args.bytes.now c.if-column-row.false in
    rw (lt-ltb _ _ c.if-column-row.false, sym tested ∙ c.if-not-fits.true)

pub row_fitting-requires : goal.row_fitting-requires
row_fitting-requires c =
    let few : c.args.column.rows < 2 ^ 32 = search rules in
    let fit = sym c.fits.ensures ∙ c.if-not-fits.false in
    let same = c.column_row-at.ensures ∙ not_moved c.args.column few c.args.row.0 c.if-column-row.false (fitting_window _ _ _ _ _ fit) in
    record {
      row_bound = omega (arith, same);
      fitting = subst (λ (q : ℕ). Fitting c.args.column (place_of c.args.column c.args.block q) c.args.bytes.now) same (fitting _ _ _ _ _ fit);
    }

pub returns : goal.returns
unfolding row_in
returns c =
    let few : c.args.column.rows < 2 ^ 32 = search rules in
    let tested = c.fits.ensures ∙ ap (fits c.args.column c.args.blocks c.args.block c.args.bytes.now) c.column_row-at.ensures ∙ moved-fits c.args.column few c.args.row.0 c.args.blocks c.args.block c.args.bytes.now c.if-column-row.false in
    rw (lt-ltb _ _ c.if-column-row.false, sym tested ∙ c.if-not-fits.false) c.row_fitting.ensures
