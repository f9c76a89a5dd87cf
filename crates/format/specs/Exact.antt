-- Which bytes are just what a codec writes: those that, opened, read to the last row and written again by it, come back. No list from outside is asked for.
-- Assumes nothing.
use Rattle.std.specs.Prelude.{ℕ, ◌^◌, ◌≤◌, ◌<◌, ◌≡◌, List, [], ◌∷◌, length}
use Rattle.format.specs.Outcome.{Outcome, Outcome.value, ◌>>=◌}
use Rattle.format.specs.Word.{AllBelow}
use Rattle.format.specs.Writing.{written}
use Rattle.format.specs.Opening.{opened}
use Rattle.format.specs.Reading.{row_at}
use Rattle.format.specs.Runs.{decoded}
use Rattle.format.specs.Demands.{Applies}

-- the values of all rows of some bytes, opened with a table that has room for so many blocks
unfoldable pub all_rows : (s : List ℕ) (room : ℕ) → Outcome (List ℕ)
all_rows s room = do
  o ← opened s room
  decoded (row_at o.column o.table s) o.column.rows 0 o.column.rows

-- the blocks of as many rows as a column can have
abbrev pub most_blocks : ℕ
most_blocks = 2 ^ 23

-- some bytes are what a list of fewer than 2^32 values, to which a codec applies, is written as by it alone, wherever there is room
pub record WrittenBy (codec : ℕ) (vs s : List ℕ) : Type 0 where
  pub each : AllBelow (2 ^ 64) vs
  pub few : length vs < 2 ^ 32
  pub applies : Applies codec vs
  pub is : (room : ℕ) → length s ≤ room → written vs (codec ∷ []) room ≡ value s

-- they open, all their rows read, and the values written by the codec alone are the bytes
pub record ComesBack (codec : ℕ) (vs s : List ℕ) : Type 0 where
  pub read : all_rows s most_blocks ≡ value vs
  pub again : written vs (codec ∷ []) (length s) ≡ value s

-- for any bytes and any codec the one is so exactly when the other is; and then of one list only, whatever the codec
pub record ExactlyWritten : Type 0 where
  pub back : (codec : ℕ) (vs s : List ℕ) → WrittenBy codec vs s → ComesBack codec vs s
  pub made : (codec : ℕ) (vs s : List ℕ) → ComesBack codec vs s → WrittenBy codec vs s
  pub only : (codec other : ℕ) (vs ws s : List ℕ) → WrittenBy codec vs s → WrittenBy other ws s → vs ≡ ws
