-- How an explanation begins, and its lines in chunks (text/specs/Chunk): what one call writes and answers.
-- Assumes nothing.
use Rattle.std.specs.Prelude.{ℕ, ◌≡◌, List, [], length, drop, Result, Ok, Err}
use Rattle.std.proofs.lemmas.List.Edits.{sets}
use Rattle.io.specs.Counts.{IsPrefixLen}
use Rattle.format.specs.declared.Column.{Column}
use Rattle.format.specs.Listing.{ascii, named_line}
use Rattle.format.specs.Opening.{Loaded}
use Rattle.format.specs.Outcome.{Outcome, Outcome.value, Outcome.refusal}
use Rattle.format.specs.Parts.{names, parts_from, parts_of}
use Rattle.text.specs.Chunk.{chunk_rows, chunk}
use Rattle.byte_part.specs.declared.Cursor.{Cursor}
use Rattle.text_explain.specs.declared.Told.{Told}
use Rattle.text_explain.specs.Explained.{part_max, text_at}

-- ---- the beginning

-- the line of a refusal; none where the column opens
abbrev pub only_line : Outcome Loaded → List ℕ
only_line (value o) = []
only_line (refusal number also) = named_line (ascii "refused ") number

-- the answer
abbrev pub begun : Outcome Loaded → Result Column ℕ
begun (value o) = Ok o.column
begun (refusal number also) = Err (length (named_line (ascii "refused ") number))

-- the line's length in it
abbrev pub line_length : Result Column ℕ → ℕ
line_length (Ok c) = 0
line_length (Err n) = n

-- the answer, and the line before and after, whose first bytes the answer counts
pub record BegunAs (o : Outcome Loaded) (r : Result Column ℕ) (old new : List ℕ) : Type 0 where
  pub answer : r ≡ begun o
  pub line : new ≡ sets old 0 (only_line o)
  pub counts : IsPrefixLen (line_length r) new

-- ---- the lines

-- a place before part n: the parts from it on are those from part n on
abbrev pub Placed : (s : List ℕ) → Column → (n : ℕ) → Cursor → Type 0
Placed s col n c = parts_from s col c.at (drop c.number (names col.codec col.rows)) ≡ drop n (parts_of s col)

-- the answer: the parts that a chunk takes from number n on, and the bytes of their lines
abbrev pub told_in : (s : List ℕ) → Column → (room n : ℕ) → Told
told_in s col room n = record {
  parts = chunk_rows (text_at s col) part_max (length (parts_of s col)) room n;
  bytes = length (chunk (text_at s col) part_max (length (parts_of s col)) room n);
}

-- `fill_lines` of a column and its bytes from a part on: what was taken, and the buffer before and after, whose first bytes the answer counts
abbrev pub ToldAs : (column : Column) (s : List ℕ) (from : ℕ) (r : Told) (old new : List ℕ) → Type 0
ToldAs column s from r old new =
    (r ≡ told_in s column (length old) from)
    × ((new ≡ sets old 0 (chunk (text_at s column) part_max (length (parts_of s column)) (length old) from)) × IsPrefixLen r.bytes new)
