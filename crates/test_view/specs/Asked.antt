-- What the program asks of a view.
-- Assumes nothing.
use Rattle.std.specs.Prelude.{ℕ, ◌≡◌, List}
use Rattle.format.specs.declared.Column.{Column}
use Rattle.format.specs.Opening.{column_in}
use Rattle.format.specs.Viewing.{viewed_under}
use Rattle.view.specs.Held.{column_or}
use Rattle.view.specs.Calls.{PlainAs, RowOfAs}
use Rattle.test_view.specs.declared.Asked.{Asked}

-- the column of a view of some bytes
abbrev pub view_column : (sheet : ℕ) (s : List ℕ) → Column
view_column sheet s = column_or (column_in (viewed_under sheet s))

-- what opening answers, how many rows the view has, and a row of it
abbrev pub AskedAs : (sheet : ℕ) (s : List ℕ) (row : ℕ) → Asked → Type 0
AskedAs sheet s row r = PlainAs sheet s r.answer × (r.rows ≡ (view_column sheet s).window.rows) × RowOfAs (view_column sheet s) s row r.read
