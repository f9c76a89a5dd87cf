-- How many rows from one on have equal answers, within a chunk of two columns.
-- Assumes nothing.
use Rattle.std.specs.Prelude.{ℕ, ◌+◌, ◌-◌, ◌%◌, ◌≤◌, ◌<◌, min, max, ◌≡◌, true, false, List, get_or}
use Rattle.format.specs.declared.Column.{Column}
use Rattle.format.specs.Comparing.{equal_answers}
use Rattle.format.specs.Outcome.{Outcome, Outcome.value}
use Rattle.format.specs.Reading.{column_row, row_in}
use Rattle.read_row.specs.Chunks.{chunk_size}
use Rattle.compare_walk.specs.declared.equal.Side.{Side}
use Rattle.compare_walk.specs.declared.equal.Looked.{Looked}

-- row r of a side's window, with its block
abbrev pub side_row : Side → (bytes : List ℕ) (r : ℕ) → Outcome ℕ
side_row x bytes r = row_in x.column x.blocks x.block bytes r

-- the values of a list, read as rows
abbrev pub list_row : (values : List ℕ) (r : ℕ) → Outcome ℕ
list_row values r = value (get_or values r 0)

-- of so many rows from r on the first n have equal answers, and the next one, if there is one, has not
pub record EqualFor (left right : ℕ → Outcome ℕ) (r size n : ℕ) : Type 0 where
  pub most : n ≤ size
  pub before : (i : ℕ) → i < n → equal_answers (left (r + i)) (right (r + i)) ≡ true
  pub next : n < size → equal_answers (left (r + n)) (right (r + n)) ≡ false

-- the rows from r on that lie in one block of each column and in both windows
abbrev pub shared_size : (left right : Column) (r : ℕ) → ℕ
shared_size left right r =
    let rest = min left.window.rows right.window.rows - r in
    min (chunk_size (column_row left r) rest) (chunk_size (column_row right r) rest)

-- some rows from r on, in one block of each column and in one window at least, were looked at
pub record LookedAt (left : Side) (lbytes : List ℕ) (right : Side) (rbytes : List ℕ) (r : ℕ) (looked : Looked) : Type 0 where
  pub some : 0 < looked.size
  pub inside : r < max left.column.window.rows right.column.window.rows → r + looked.size ≤ max left.column.window.rows right.column.window.rows
  pub lone : column_row left.column r % 512 + looked.size ≤ 512
  pub rone : column_row right.column r % 512 + looked.size ≤ 512
  pub equal : EqualFor (side_row left lbytes) (side_row right rbytes) r looked.size looked.equal
