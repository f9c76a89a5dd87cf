-- The rows that own a bit of a byte, as the calls answer: 13 where column and bytes do not fit together at its offset.
-- Assumes nothing.
use Rattle.std.specs.Prelude.{ℕ, List, [], Option}
use Rattle.format.specs.declared.Block.{Block}
use Rattle.format.specs.declared.Column.{Column}
use Rattle.format.specs.Outcome.{Outcome, Outcome.value, ◌>>◌, demand}
use Rattle.format.specs.Parts.{owners_at}
use Rattle.byte_part.specs.Bytes.{fits_at}

-- the rows that own a bit of it
unfoldable pub rows_of : (s : List ℕ) → Column → (table : List Block) (i : ℕ) → Outcome (Option (ℕ × ℕ))
rows_of s col t i = demand (fits_at s col i) 13 [] >> value (owners_at col t i)
