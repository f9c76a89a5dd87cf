-- `read_row::reader::row_fitting` meets its contract: the value at the column's row, named as it was asked for.
-- Assumes nothing.
use Rattle.format.specs.Refusals.{answered_by}
use Prim.Native.Nat.{ℕ}
use mathlib.Core.Path.{◌≡◌, sym, ap, ◌∙◌, subst}
use mathlib.Core.List.{List}
use native.Mathlib.Omega.{arith}
use Rattle.format.specs.declared.Block.{Block}
use Rattle.format.specs.declared.Column.{Column}
use Rattle.format.specs.Outcome.{Outcome}
use Rattle.format.specs.Reading.{column_row, place_of, value_at, asked_as}
use Rattle.format.proofs.Outcomes.{told}
use Rattle.read_row.specs.Chunks.{Fitting}
use Rattle.read_row.proofs.Moving.{out_of_bounds}
use Rattle.read_row.proofs.reader.row_fitting.Goals as goal

-- an answer at the row as the code counts it is an answer at the column's
reads_as : (col : Column) (b : Block) (s : List ℕ) (r at : ℕ) {o : Outcome ℕ} → at ≡ column_row col r → o ≡ asked_as r (value_at col b s at) → o ≡ asked_as r (value_at col b s (column_row col r))
reads_as col b s r at same e = e ∙ ap (λ (q : ℕ). asked_as r (value_at col b s q)) same

pub value_of-requires : goal.value_of-requires
value_of-requires c =
    let same : c.column_row-at.result.0 ≡ column_row c.args.column c.args.row.0 = omega (arith, c.column_row-at.ensures, c.requires.row_bound) in
    subst (λ (q : ℕ). Fitting c.args.column (place_of c.args.column c.args.block q) c.args.bytes.now) (sym same) c.requires.fitting

pub returns-in-Ok : goal.returns-in-Ok
returns-in-Ok c =
    let same : c.column_row-at.result.0 ≡ column_row c.args.column c.args.row.0 = omega (arith, c.column_row-at.ensures, c.requires.row_bound) in
    reads_as _ _ _ _ _ same (sym (ap (asked_as c.args.row.0) (told answered_by c.value_of.ensures c.in-Ok.is)))

pub returns-in-Err : goal.returns-in-Err
returns-in-Err c =
    let same : c.column_row-at.result.0 ≡ column_row c.args.column c.args.row.0 = omega (arith, c.column_row-at.ensures, c.requires.row_bound) in
    reads_as _ _ _ _ _ same (out_of_bounds _ _ _ _ _ (told answered_by c.value_of.ensures c.in-Err.is))
