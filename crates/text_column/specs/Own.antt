-- A column that a program opened, read with the bytes that it was opened from.
-- Assumes nothing.
use Rattle.format.specs.declared.Refusal.{Refusal}
use Rattle.std.specs.Prelude.{ℕ, ◌+◌, ◌/◌, ◌%◌, ◌^◌, ◌<◌, min, ◌≡◌, List, [], Result, Ok, Err}
use Rattle.format.specs.declared.Block.{Block}
use Rattle.format.specs.declared.Column.{Column}
use Rattle.format.specs.Bodies.{block_count}
use Rattle.format.specs.Listing.{opened_here}
use Rattle.format.specs.Opening.{Loaded}
use Rattle.format.specs.Outcome.{Outcome, Outcome.value, Outcome.refusal}
use Rattle.format.specs.Reading.{column_row, block_at, row_at}
use Rattle.format.specs.Windows.{in_window}
use Rattle.format.specs.Demands.{LiesIn}
use Rattle.blockwise_linear.specs.declared.passing.Pass.{Pass}
use Rattle.blockwise_linear.specs.Passing.{passed, Passing}
use Rattle.open_column.specs.Opening.{blocked}
use Rattle.text_column.specs.declared.own.Own.{Own}

-- ---- its rows

-- the table of what opening found; none for a refusal
abbrev pub table_of : Outcome Loaded → List Block
table_of (value o) = o.table
table_of (refusal number also) = []

-- row r of a column, with the table that a program's opening finds in the bytes
abbrev pub own_row : Column → (s : List ℕ) (r : ℕ) → Outcome ℕ
own_row c s r = row_at c (table_of (opened_here s)) s r

-- ---- its blocks

-- the rows that have blocks
abbrev pub block_rows : Column → ℕ
block_rows c = blocked c.codec c.rows

-- a column, with a pass over them before the first
abbrev pub own_first : (s : List ℕ) → Column → Own
own_first s c = record { column = c; pass = passed s (block_rows c) 0 }

-- the block of row r of a column's window
abbrev pub block_of : Column → (r : ℕ) → ℕ
block_of c r = column_row c r % 2 ^ 32 / 512

-- the pass at block k
abbrev pub pass_at : (s : List ℕ) → Column → (k : ℕ) → Pass
pass_at s c k = passed s (block_rows c) (min (k + 1) (block_count (block_rows c)))

-- and the column with it
abbrev pub own_at : (s : List ℕ) → Column → (k : ℕ) → Own
own_at s c k = record { column = c; pass = pass_at s c k }

-- ---- narrowing it

-- the answer of the column alone
abbrev pub narrowed_in : Result Own (Refusal × Own) → Result Column (Refusal × Column)
narrowed_in (Ok o) = Ok o.column
narrowed_in (Err (why, o)) = Err (why, o.column)

-- what is owned afterwards
abbrev pub own_in : Result Own (Refusal × Own) → Own
own_in (Ok o) = o
own_in (Err (why, o)) = o

-- ---- what is asked of a column

-- a program opens it of some bytes
pub record Opens (s : List ℕ) (c : Column) : Type 0 where
  pub found : Loaded
  pub opened : opened_here s ≡ value found
  pub column : found.column ≡ c

-- a program opens it of some bytes, and shows it through a window that lies in it
pub record Shows (s : List ℕ) (c : Column) : Type 0 where
  pub found : Loaded
  pub opened : opened_here s ≡ value found
  pub inside : LiesIn c.window found
  pub column : (in_window found c.window).column ≡ c

-- .. and passes over its blocks
pub record Owned (s : List ℕ) (c : Column) (p : Pass) : Type 0 where
  pub shows : Shows s c
  pub pass : Passing s (block_rows c) p

-- .. and has the block of a row of the window at hand
pub record AtRow (s : List ℕ) (c : Column) (b : Block) (r : ℕ) : Type 0 where
  pub shows : Shows s c
  pub inside : r < c.window.rows
  pub block : b ≡ block_at (table_of (opened_here s)) (column_row c r / 512)
