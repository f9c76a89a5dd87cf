-- Comparing two columns: each row whose answers differ, with both answers, and how many such rows there are; in ASCII.
-- Assumes nothing.
use Rattle.std.specs.Prelude.{ℕ, max, Bool, false, not, List, [], ◌∷◌, ◌++◌, eqb, length}
use Rattle.format.specs.Outcome.{Outcome, Outcome.value, Outcome.refusal, pick}
use Rattle.format.specs.Opening.{Loaded}
use Rattle.format.specs.Reading.{row_at}
use Rattle.format.specs.Lookup.{rows_passing}
use Rattle.format.specs.Listing.{ascii, decimal, named_line, answer_text, opened_here}

-- ---- two answers

-- whether two answers are equal: the same value, or refusals by the same number
abbrev pub equal_answers : (left right : Outcome ℕ) → Bool
equal_answers (value v) (value w) = eqb v w
equal_answers (value v) (refusal m other) = false
equal_answers (refusal n also) (value w) = false
equal_answers (refusal n also) (refusal m other) = eqb n m

-- whether an answer says that there is no such row
abbrev pub absent : Outcome ℕ → Bool
absent (value v) = false
absent (refusal number also) = eqb number 12

-- an answer as text, and none for a row that is not there
abbrev pub side_text : Outcome ℕ → List ℕ
side_text o = pick (absent o) (ascii "none") (answer_text o)

-- a row's line: both answers
unfoldable pub pair_line : (r : ℕ) (left right : Outcome ℕ) → List ℕ
pair_line r left right = decimal r ++ (ascii " " ++ (side_text left ++ (ascii " " ++ (side_text right ++ ascii "\n"))))

-- ---- two columns, over any reading of the rows of each

-- whether the answers at a row differ
abbrev pub differ : (left right : ℕ → Outcome ℕ) (r : ℕ) → Bool
differ left right r = not (equal_answers (left r) (right r))

-- those of n rows from r on at which they differ, ascending: every row passes as itself, by that test
abbrev pub differing : (left right : ℕ → Outcome ℕ) (r n : ℕ) → List ℕ
differing left right r n = rows_passing value (differ left right) r n

-- the lines of some rows
unfoldable pub pair_lines : (left right : ℕ → Outcome ℕ) → List ℕ → List ℕ
pair_lines left right [] = []
pair_lines left right (r ∷ rs) = pair_line r (left r) (right r) ++ pair_lines left right rs

-- of so many rows: the lines of those that differ, and the count of lines
unfoldable pub compared : (left right : ℕ → Outcome ℕ) (rows : ℕ) → List ℕ
compared left right rows =
    let rs = differing left right 0 rows in
    pair_lines left right rs ++ named_line (ascii "lines ") (length rs)

-- ---- the comparison

-- of what two openings found, over the rows of either window: rows of one only stand behind all rows of the other; or the first refusal as the only line
abbrev pub compared_or : (left right : Outcome Loaded) (s t : List ℕ) → List ℕ
compared_or (refusal number also) right s t = named_line (ascii "left refused ") number
compared_or (value o) (refusal number also) s t = named_line (ascii "right refused ") number
compared_or (value o) (value p) s t =
    compared (row_at o.column o.table s) (row_at p.column p.table t) (max o.column.window.rows p.column.window.rows)

-- what the program writes of the bytes of two files
unfoldable pub comparison : (s t : List ℕ) → List ℕ
comparison s t = compared_or (opened_here s) (opened_here t) s t
