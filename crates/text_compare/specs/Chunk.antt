-- The lines of the rows that differ, in chunks (text/specs/Chunk), over any two readings: what one call writes and answers; and what the calls promise of two columns.
-- Assumes nothing.
use Rattle.std.specs.Prelude.{ℕ, zero, suc, ◌+◌, max, ◌≡◌, List, [], length}
use Rattle.std.proofs.lemmas.List.Edits.{sets}
use Rattle.io.specs.Counts.{IsPrefixLen}
use Rattle.format.specs.declared.Column.{Column}
use Rattle.format.specs.Listing.{ascii, named_line}
use Rattle.format.specs.Outcome.{Outcome, pick, Wrote}
use Rattle.format.specs.Comparing.{equal_answers, pair_line, differing}
use Rattle.text.specs.Chunk.{chunk_rows, chunk}
use Rattle.text_column.specs.Own.{own_row}
use Rattle.text_compare.specs.declared.Compared.{Compared}

-- the longest line: ten digits, twenty bytes for each answer, two spaces and the line feed
abbrev pub pair_max : ℕ
pair_max = 53

-- a row's text: its line, or nothing where the answers are equal
abbrev pub pair_text : (r : ℕ) (left right : Outcome ℕ) → List ℕ
pair_text r left right = pick (equal_answers left right) [] (pair_line r left right)

-- the same by two readings
abbrev pub text_of : (left right : ℕ → Outcome ℕ) (r : ℕ) → List ℕ
text_of left right r = pair_text r (left r) (right r)

-- how many of so many rows a chunk looks at from row r on
abbrev pub pair_rows : (left right : ℕ → Outcome ℕ) (rows room r : ℕ) → ℕ
pair_rows left right rows room r = chunk_rows (text_of left right) pair_max rows room r

-- their lines
abbrev pub pair_chunk : (left right : ℕ → Outcome ℕ) (rows room r : ℕ) → List ℕ
pair_chunk left right rows room r = chunk (text_of left right) pair_max rows room r

-- the answer: the rows looked at, the lines and their bytes
abbrev pub compared_in : (left right : ℕ → Outcome ℕ) (rows room r : ℕ) → Compared
compared_in left right rows room r = record {
  rows = pair_rows left right rows room r;
  lines = length (differing left right r (pair_rows left right rows room r));
  bytes = length (pair_chunk left right rows room r);
}

-- the lines of so many calls together, each from the row on where the one before ended
unfoldable pub line_counts : (turns : ℕ) (left right : ℕ → Outcome ℕ) (rows room r : ℕ) → ℕ
line_counts zero left right rows room r = 0
line_counts (suc turns) left right rows room r =
    length (differing left right r (pair_rows left right rows room r))
    + line_counts turns left right rows room (r + pair_rows left right rows room r)

-- `row_count`: the rows of the window that has more
abbrev pub CountedAs : (left right : Column) (r : ℕ) → Type 0
CountedAs left right r = r ≡ max left.window.rows right.window.rows

-- `fill_lines` of two columns and their bytes from a row on: what was looked at, and the buffer before and after, whose first bytes the answer counts
abbrev pub ComparedAs : (left : Column) (s : List ℕ) (right : Column) (t : List ℕ) (from : ℕ) (r : Compared) (old new : List ℕ) → Type 0
ComparedAs left s right t from r old new =
    (r ≡ compared_in (own_row left s) (own_row right t) (max left.window.rows right.window.rows) (length old) from)
    × ((new ≡ sets old 0 (pair_chunk (own_row left s) (own_row right t) (max left.window.rows right.window.rows) (length old) from)) × IsPrefixLen r.bytes new)

-- `end_line` of so many lines: the line before and after, at whose front so many bytes were written
abbrev pub EndedAs : (lines n : ℕ) (old new : List ℕ) → Type 0
EndedAs lines n old new = Wrote old 0 (named_line (ascii "lines ") lines) new n × IsPrefixLen n new
