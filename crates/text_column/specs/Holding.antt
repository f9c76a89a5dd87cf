-- The values of rows that a list holds.
-- Assumes nothing.
use Rattle.std.specs.Prelude.{ℕ, ◌+◌, ◌/◌, ◌≤◌, ◌<◌, ◌≡◌, List, length, get_or}
use Rattle.format.specs.declared.Column.{Column}
use Rattle.format.specs.Listing.{opened_here}
use Rattle.format.specs.Outcome.{Outcome, Outcome.value}
use Rattle.format.specs.Reading.{column_row, block_at}
use Rattle.text_column.specs.declared.held.Held.{Held}
use Rattle.text_column.specs.Own.{table_of, own_row, Owned}

-- reading the first rows from r on, as many as are counted, answers the entries of a list of 512
pub record Values (read : ℕ → Outcome ℕ) (r n : ℕ) (values : List ℕ) : Type 0 where
  pub long : length values ≡ 512
  pub few : n ≤ 512
  pub each : (j : ℕ) → j < n → read (r + j) ≡ value (get_or values j 0)

-- a list holds what is said, and the block at hand is that of the rows said
pub record Holds (s : List ℕ) (c : Column) (h : Held) (values : List ℕ) : Type 0 where
  pub own : Owned s c h.pass
  pub block : (r : ℕ) → h.first.0 ≤ r → r < h.end.0 → h.pass.block ≡ block_at (table_of (opened_here s)) (column_row c r / 512)
  pub rows : Values (own_row c s) h.first.0 h.count values

-- .. from a row on or before it, and that is one of them, if it is one of the window's
pub record HoldsAt (s : List ℕ) (c : Column) (r : ℕ) (h : Held) (values : List ℕ) : Type 0 where
  pub holds : Holds s c h values
  pub from : h.first.0 ≤ r
  pub at : r < c.window.rows → r < h.end.0
