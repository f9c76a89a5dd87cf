-- A listing's chunks are those of its rows' lines (text/specs/Chunk), and what the calls promise that write them and the last line.
-- Assumes nothing.
use Rattle.std.specs.Prelude.{ℕ, ◌≡◌, List, length}
use Rattle.std.proofs.lemmas.List.Edits.{sets}
use Rattle.io.specs.Counts.{IsPrefixLen}
use Rattle.format.specs.declared.Column.{Column}
use Rattle.format.specs.Listing.{ascii, named_line, row_line}
use Rattle.format.specs.Outcome.{Wrote}
use Rattle.text.specs.declared.Filled.{Filled}
use Rattle.text.specs.Chunk.{chunk, filled}
use Rattle.text_column.specs.Own.{own_row}

-- the longest line of a row: ten digits, a space, twenty digits and the line feed
abbrev pub line_max : ℕ
line_max = 32

-- `fill_lines` of a column and its bytes from a row on: what was taken, and the buffer before and after, whose first bytes the answer counts
abbrev pub FilledAs : (column : Column) (s : List ℕ) (from : ℕ) (r : Filled) (old new : List ℕ) → Type 0
FilledAs column s from r old new =
    (r ≡ filled (row_line (own_row column s)) line_max column.rows (length old) from)
    × ((new ≡ sets old 0 (chunk (row_line (own_row column s)) line_max column.rows (length old) from)) × IsPrefixLen r.bytes new)

-- `end_line` of a column: the line before and after, at whose front so many bytes were written
abbrev pub EndedAs : (column : Column) (n : ℕ) (old new : List ℕ) → Type 0
EndedAs column n old new = Wrote old 0 (named_line (ascii "end ") column.rows) new n × IsPrefixLen n new
