-- Narrowing: a window in an opened column's window.
-- Assumes nothing.
use Rattle.std.specs.Prelude.{ℕ, ◌+◌, [], leb}
use Rattle.format.specs.declared.Column.{Column}
use Rattle.format.specs.declared.Window.{Window}
use Rattle.format.specs.Outcome.{Outcome, Outcome.value, Outcome.refusal, ◌>>◌, demand}
use Rattle.format.specs.Opening.{Loaded}
use Rattle.format.specs.Reading.{column_row, window_fits}

-- a column with another window
abbrev pub windowed : Column → Window → Column
windowed col w =
    record {
      minimum = col.minimum;
      gcd = col.gcd;
      count = col.count;
      rows = col.rows;
      start = col.start;
      size = col.size;
      window = w;
      codec = col.codec;
    }

-- narrowing a column to so many rows from row first of its window on: 12 if they leave the window, else 13 if that leaves the column
unfoldable pub narrowed : Column → (first count : ℕ) → Outcome Column
narrowed col first count = do
  demand (leb (first + count) col.window.rows) 12 []
  demand (window_fits col) 13 []
  value (windowed col (record { first = column_row col first; rows = count }))

-- the column afterwards: the narrowed one, or as it was
abbrev pub column_after : Outcome Column → (before : Column) → Column
column_after (value col) before = col
column_after (refusal number also) before = before

-- what narrowing comes to, and the column afterwards
abbrev pub narrowing : Column → (first count : ℕ) → Outcome Column × Column
narrowing col first count =
    let o = narrowed col first count in
    (o, column_after o col)

-- the window that shows the whole column
abbrev pub whole : Loaded → Window
whole o = record { first = 0; rows = o.column.rows }

-- what opening found, with another window
abbrev pub in_window : Loaded → Window → Loaded
in_window o w = record { column = windowed o.column w; table = o.table; longer = o.longer }
