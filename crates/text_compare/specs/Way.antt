-- The way through a comparison, from chunk to chunk (text/specs/Way): what is still to be written, what is handed out next, and the way
-- behind it.
-- Assumes nothing.
use Rattle.std.specs.Prelude.{ℕ, ◌+◌, ◌-◌, ◌≤◌, max, Bool, true, false, List, [], ◌++◌, ltb, length, Result, Ok, Err}
use Rattle.format.specs.Comparing.{differing, comparison}
use Rattle.format.specs.Listing.{ascii, named_line, row_texts, opened_here}
use Rattle.format.specs.Outcome.{Outcome, pick}
use Rattle.text.specs.Way.{Walk}
use Rattle.text_column.specs.declared.own.Own.{Own}
use Rattle.text_column.specs.Own.{own_row, own_at, block_of, Owned}
use Rattle.text_compare.specs.declared.way.At.{At}
use Rattle.text_compare.specs.declared.way.Way.{Way}
use Rattle.text_compare.specs.declared.way.Way.TheVariants.{Open, Rows, Done}
use Rattle.text_compare.specs.Beginning.{only_line, begun}
use Rattle.text_compare.specs.Chunk.{text_of, pair_rows, pair_chunk}

-- the room that a chunk asks for
abbrev pub hand_max : ℕ
hand_max = 128

-- ---- two columns

-- what the left one's rows answer
abbrev pub left_of : At → (s : List ℕ) (r : ℕ) → Outcome ℕ
left_of a s r = own_row a.left.column s r

-- and the right one's
abbrev pub right_of : At → (t : List ℕ) (r : ℕ) → Outcome ℕ
right_of a t r = own_row a.right.column t r

-- the rows of the window that has more
abbrev pub rows_of : At → ℕ
rows_of a = max a.left.column.window.rows a.right.column.window.rows

-- before their first row
abbrev pub at_first : (left right : Own) → At
at_first left right = record { left = left; right = right; from = record { 0 = 0 }; lines = 0 }

-- behind a chunk
abbrev pub at_next : At → (s t : List ℕ) (room : ℕ) → At
at_next a s t room =
    let k = pair_rows (left_of a s) (right_of a t) (rows_of a) room a.from.0 in
    record {
      left = own_at s a.left.column (block_of a.left.column a.from.0);
      right = own_at t a.right.column (block_of a.right.column a.from.0);
      from = record { 0 = a.from.0 + k };
      lines = a.lines + length (differing (left_of a s) (right_of a t) a.from.0 k);
    }

-- ---- what is left

-- the text of the rows that are left, and the last line with the lines of all rows
abbrev pub rest_of : At → (s t : List ℕ) → List ℕ
rest_of a s t =
    let n = rows_of a - a.from.0 in
    row_texts (text_of (left_of a s) (right_of a t)) a.from.0 n ++ named_line (ascii "lines ") (a.lines + length (differing (left_of a s) (right_of a t) a.from.0 n))

-- the text that is still to be written: before the first line the whole comparison
abbrev pub rest : (s t : List ℕ) → Way → List ℕ
rest s t Open = comparison s t
rest s t (Rows a) = rest_of a s t
rest s t Done = []

-- whether some is
abbrev pub is_more : Way → Bool
is_more Open = true
is_more (Rows a) = true
is_more Done = false

-- a way that these bytes have
abbrev pub Stands : (s t : List ℕ) → Way → Type 0
Stands s t Open = Unit {0}
Stands s t (Rows a) = Owned s a.left.column a.left.pass × Owned t a.right.column a.right.pass × (a.from.0 ≤ rows_of a) × (a.lines ≤ a.from.0)
Stands s t Done = Unit {0}

-- ---- a chunk, where a longest line has room

-- the line of a side that does not open; the lines of rows, or the last line behind all rows
abbrev pub piece : (s t : List ℕ) → Way → (room : ℕ) → List ℕ
piece s t Open room = only_line (opened_here s) (opened_here t)
piece s t (Rows a) room =
    pick (ltb a.from.0 (rows_of a)) (pair_chunk (left_of a s) (right_of a t) (rows_of a) room a.from.0) (named_line (ascii "lines ") a.lines)
piece s t Done room = []

-- the way behind the beginning
abbrev pub way_of : Result (Own × Own) ℕ → Way
way_of (Ok (left, right)) = Rows (at_first left right)
way_of (Err n) = Done

-- the way behind a chunk
abbrev pub behind : (s t : List ℕ) → Way → (room : ℕ) → Way
behind s t Open room = way_of (begun s t (opened_here s) (opened_here t))
behind s t (Rows a) room = pick (ltb a.from.0 (rows_of a)) (Rows (at_next a s t room)) Done
behind s t Done room = Done

-- ---- the walk

-- the way through a comparison, by its two columns' bytes
abbrev pub comparison_walk : (s t : List ℕ) → Walk Way
comparison_walk s t = record { most = hand_max; rest = rest s t; piece = piece s t; behind = behind s t; Stands = Stands s t }
