-- What each byte is, as the calls answer: its part; 13 where column and bytes do not fit together at its offset.
-- Assumes nothing.
use Rattle.std.specs.Prelude.{ℕ, ◌+◌, Bool, ◌&&◌, List, [], ltb, leb, length, Option, Some, None}
use Rattle.format.specs.declared.Column.{Column}
use Rattle.format.specs.declared.Part.{Part}
use Rattle.format.specs.Outcome.{Outcome, Outcome.value, Outcome.refusal, ◌>>◌, demand}
use Rattle.format.specs.Parts.{part_at}

-- whether column and bytes fit together at an offset: the area lies in the bytes, and so does the offset
abbrev pub fits_at : (s : List ℕ) → Column → (i : ℕ) → Bool
fits_at s col i = leb (col.start + col.size) (length s) && ltb i (length s)

-- a part that was found; only a made-up column's parts end before its bytes do
abbrev pub found : Option Part → Outcome Part
found None = refusal 13 []
found (Some p) = value p

-- the part of the byte at an offset
unfoldable pub part_of : (s : List ℕ) → Column → (i : ℕ) → Outcome Part
part_of s col i = demand (fits_at s col i) 13 [] >> found (part_at s col i)
