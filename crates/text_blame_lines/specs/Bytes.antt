-- The bytes at which two columns of equal length differ: each with its part, and the rows that own a bit of it with both answers; in ASCII.
-- Assumes nothing.
use Rattle.std.specs.Prelude.{ℕ, ◌+◌, ◌-◌, List, [], ◌++◌, eqb, get_or, Option, Some, None}
use Rattle.format.specs.declared.Column.{Column}
use Rattle.format.specs.declared.Part.{Part}
use Rattle.format.specs.declared.PartName.{PartName}
use Rattle.format.specs.Outcome.{Outcome, Outcome.value, Outcome.refusal, pick}
use Rattle.format.specs.Listing.{ascii, named, named_line, answer_text, row_texts}
use Rattle.byte_part.specs.Bytes.{part_of}
use Rattle.text_explain.specs.Explained.{name_text}
use Rattle.text_column.specs.Own.{own_row}
use Rattle.text_blame_bytes.specs.declared.counting.Tally.{Tally}
use Rattle.text_blame_bytes.specs.Owners.{owners_found}

-- ---- lines

-- unequal lengths
unfoldable pub lengths_line : (left right : ℕ) → List ℕ
lengths_line left right = named (ascii "lengths differ ") left ++ named_line (ascii " ") right

-- a field that differs
unfoldable pub field_line : (i : ℕ) → PartName → List ℕ
field_line i name = named (ascii "fields differ at byte ") i ++ (ascii " " ++ (name_text name ++ ascii "\n"))

-- the name of a part that was found; only a made-up column has none
abbrev pub part_name : Outcome Part → List ℕ
part_name (value p) = name_text p.name
part_name (refusal number also) = named (ascii "refused ") number

-- a byte that differs
unfoldable pub byte_line : (i : ℕ) → Outcome Part → List ℕ
byte_line i part = named (ascii "byte ") i ++ (ascii " " ++ (part_name part ++ ascii "\n"))

-- a row's two answers
unfoldable pub both_line : (r : ℕ) (left right : Outcome ℕ) → List ℕ
both_line r left right = named (ascii "row ") r ++ (ascii " " ++ (answer_text left ++ (ascii " " ++ (answer_text right ++ ascii "\n"))))

-- the same by two readings
abbrev pub row_text : (left right : ℕ → Outcome ℕ) (r : ℕ) → List ℕ
row_text left right r = both_line r (left r) (right r)

-- ---- the text of an offset

-- the longest: a byte's line of fifty-three bytes and eight rows' of fifty-seven, rounded up
abbrev pub blame_max : ℕ
blame_max = 512

-- the lines of the rows that a byte names
abbrev pub owners_text : (left right : ℕ → Outcome ℕ) → Option (ℕ × ℕ) → List ℕ
owners_text left right (Some (first, last)) = row_texts (row_text left right) first (last + 1 - first)
owners_text left right None = []

-- the byte's line and its rows'; nothing where the bytes are the same
unfoldable pub text_at : Column → (s : List ℕ) → Column → (t : List ℕ) (i : ℕ) → List ℕ
text_at col s against t i =
    pick (eqb (get_or s i 0) (get_or t i 0)) []
    (byte_line i (part_of s col i) ++ owners_text (own_row col s) (own_row against t) (owners_found col s i))

-- ---- the last line

-- the counts as a line
abbrev pub end_line : Tally → List ℕ
end_line k = named (ascii "bytes ") k.bytes ++ named_line (ascii " rows ") k.rows
