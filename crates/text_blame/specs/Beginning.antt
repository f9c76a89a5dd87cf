-- How a blame begins, with two opened columns or with the only line; and what a program writes of two files.
-- Assumes nothing.
use Rattle.format.specs.declared.PartName.{PartName}
use Rattle.std.specs.Prelude.{ℕ, ◌≡◌, List, [], ◌++◌, eqb, length, Option, Some, None, Result, Ok, Err}
use Rattle.std.proofs.lemmas.List.Edits.{sets}
use Rattle.io.specs.Counts.{IsPrefixLen}
use Rattle.format.specs.declared.Column.{Column}
use Rattle.format.specs.Listing.{ascii, named_line, row_texts, opened_here}
use Rattle.format.specs.Opening.{Loaded}
use Rattle.format.specs.Outcome.{Outcome, Outcome.value, Outcome.refusal, pick}
use Rattle.byte_part.specs.Bytes.{part_of}
use Rattle.text_blame_bytes.specs.Fields.{first_field}
use Rattle.text_blame_bytes.specs.Owners.{owners_found}
use Rattle.text_blame_bytes.specs.Tallies.{tallied}
use Rattle.text_blame_lines.specs.Bytes.{lengths_line, field_line, text_at, end_line}

-- a beginning: with two columns, or with the only line
pub data Start : Type 0 where
  both : Column → Column → Start
  only : List ℕ → Start

-- with two columns, unless a field differs
abbrev pub starts_with : Column → Column → Option (ℕ × PartName) → Start
starts_with c d (Some (i, name)) = only (field_line i name)
starts_with c d None = both c d

-- from what opening found of each side: a refusal, the left one first, unequal lengths, a field that differs
abbrev pub starts : (left right : Outcome Loaded) (s t : List ℕ) → Start
starts (refusal number also) right s t = only (named_line (ascii "left refused ") number)
starts (value o) (refusal number also) s t = only (named_line (ascii "right refused ") number)
starts (value o) (value p) s t =
    pick (eqb (length s) (length t)) (starts_with o.column p.column (first_field (part_of s o.column) s t 0 (length s))) (only (lengths_line (length s) (length t)))

-- ---- what a call answers

-- the answer
abbrev pub begun : Start → Result (Column × Column) ℕ
begun (both c d) = Ok (c, d)
begun (only l) = Err (length l)

-- the line
abbrev pub line_in : Start → List ℕ
line_in (both c d) = []
line_in (only l) = l

-- its length in the answer
abbrev pub line_length : Result (Column × Column) ℕ → ℕ
line_length (Ok (c, d)) = 0
line_length (Err n) = n

-- the answer, and the line before and after, whose first bytes the answer counts
pub record BegunAs (b : Start) (r : Result (Column × Column) ℕ) (old new : List ℕ) : Type 0 where
  pub answer : r ≡ begun b
  pub line : new ≡ sets old 0 (line_in b)
  pub counts : IsPrefixLen (line_length r) new

-- ---- the whole

-- the text of every offset and the last line, or the only line
abbrev pub blamed : Start → (s t : List ℕ) → List ℕ
blamed (both c d) s t = row_texts (text_at c s d t) 0 (length s) ++ end_line (tallied (owners_found c s) s t)
blamed (only l) s t = l

-- what the program writes of the bytes of two files
unfoldable pub blame : (s t : List ℕ) → List ℕ
blame s t = blamed (starts (opened_here s) (opened_here t) s t) s t
