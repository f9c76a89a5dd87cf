-- The text of offsets in chunks (text/specs/Chunk): what one call answers; and what the calls promise that write them and the last line.
-- Assumes nothing.
use Rattle.std.specs.Prelude.{ℕ, ◌≡◌, List, length}
use Rattle.std.proofs.lemmas.List.Edits.{sets}
use Rattle.io.specs.Counts.{IsPrefixLen}
use Rattle.format.specs.declared.Column.{Column}
use Rattle.format.specs.Outcome.{Wrote}
use Rattle.text.specs.Chunk.{chunk_rows, chunk}
use Rattle.text_blame.specs.declared.Looked.{Looked}
use Rattle.text_blame_bytes.specs.Owners.{owners_found}
use Rattle.text_blame_bytes.specs.Tallies.{tallied}
use Rattle.text_blame_lines.specs.Bytes.{blame_max, text_at, end_line}

-- the offsets that a chunk looks at, and the bytes of their text
abbrev pub looked_in : (text : ℕ → List ℕ) (bytes room from : ℕ) → Looked
looked_in text bytes room from = record {
  offsets = chunk_rows text blame_max bytes room from;
  bytes = length (chunk text blame_max bytes room from);
}

-- `fill_lines` of two columns and their bytes from an offset on: what was looked at, and the buffer before and after, whose first bytes the answer counts
abbrev pub LookedAs : (left : Column) (s : List ℕ) (right : Column) (t : List ℕ) (from : ℕ) (r : Looked) (old new : List ℕ) → Type 0
LookedAs left s right t from r old new =
    (r ≡ looked_in (text_at left s right t) (length s) (length old) from)
    × ((new ≡ sets old 0 (chunk (text_at left s right t) blame_max (length s) (length old) from)) × IsPrefixLen r.bytes new)

-- `end_line` of a column and both sides' bytes: the line before and after, at whose front so many bytes were written
abbrev pub EndedAs : (column : Column) (s t : List ℕ) (n : ℕ) (old new : List ℕ) → Type 0
EndedAs column s t n old new = Wrote old 0 (end_line (tallied (owners_found column s) s t)) new n × IsPrefixLen n new
