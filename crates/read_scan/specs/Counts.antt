-- Values counted by what they are not.
-- Assumes nothing.
use Rattle.std.specs.Prelude.{ℕ, ◌-◌, ◌≤◌, ◌≡◌, List, length}
use Rattle.format.specs.Lookup.{within}
use Rattle.read_chunk.specs.Rows.{rows_among}

-- n of some values lie outside a range; the others are its rows, whatever the first row
pub record OutsideOf (low high n : ℕ) (values : List ℕ) : Type 0 where
  pub few : n ≤ length values
  pub others : (r : ℕ) → length values - n ≡ length (rows_among (within low high) r values)
