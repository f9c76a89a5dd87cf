-- What each call promises of its answer. Nothing is lent that a call may change.
-- Assumes nothing.
use Rattle.format.specs.declared.Refusal.{Refusal}
use Rattle.format.specs.Refusals.{answered_by}
use Rattle.std.specs.Prelude.{ℕ, ◌≡◌, List, [], Option, Result}
use Rattle.std.specs.Borrow.{Bor}
use Rattle.format.specs.declared.Column.{Column}
use Rattle.format.specs.Opening.{column_in}
use Rattle.format.specs.Reading.{row_at}
use Rattle.format.specs.Viewing.{viewed_under}
use Rattle.view.specs.declared.Opening.{Opening}
use Rattle.view.specs.declared.View.{View}
use Rattle.view.specs.Held.{column_or}

-- `open_plain`: the column found under a sheet, or the refusal
abbrev pub PlainAs : (sheet : ℕ) (s : List ℕ) → Result (Column × Option ℕ) Refusal → Type 0
PlainAs sheet s r = answered_by r ≡ column_in (viewed_under sheet s)

-- `row_of`: a row as with an empty table
abbrev pub RowOfAs : (column : Column) (s : List ℕ) (row : ℕ) → Result ℕ Refusal → Type 0
RowOfAs column s row r = answered_by r ≡ row_at column [] s row

-- `open`: the same as `open_plain`, beside a view of the very bytes and the column that it leaves
abbrev pub OpensAs : (sheet : ℕ) (bytes : Bor (List ℕ)) → Opening → Type 0
OpensAs sheet bytes r = PlainAs sheet bytes.now r.answer × (r.view.bytes ≡ bytes) × (r.view.column ≡ column_or (column_in (viewed_under sheet bytes.now)))

-- `row`: the same as `row_of`
abbrev pub RowAs : View → (row : ℕ) → Result ℕ Refusal → Type 0
RowAs view row r = RowOfAs view.column view.bytes.now row r

-- `rows`: those of the column's window
abbrev pub RowsAs : View → (r : ℕ) → Type 0
RowsAs view r = r ≡ view.column.window.rows
