-- The way through a listing, from chunk to chunk (text/specs/Way): what is still to be written, what is handed out next, and the way behind
-- it.
-- Assumes nothing.
use Rattle.text_column.specs.declared.own.Own.{Own}
use Rattle.std.specs.Prelude.{ℕ, ◌+◌, ◌-◌, ◌≤◌, Bool, true, false, List, [], ◌++◌, ltb, Result, Ok, Err}
use Rattle.format.specs.Listing.{ascii, named_line, row_line, row_lines, opened_here, listing}
use Rattle.format.specs.Outcome.{pick}
use Rattle.text.specs.Chunk.{chunk_rows, chunk}
use Rattle.text.specs.Way.{Walk}
use Rattle.text_column.specs.Own.{own_row, own_at, block_of, Owned}
use Rattle.text_list.specs.declared.way.Way.{Way}
use Rattle.text_list.specs.declared.way.Way.TheVariants.{Open, Rows, Done}
use Rattle.text_list.specs.Beginning.{first_line, begun}
use Rattle.text_list.specs.Chunk.{line_max}

-- the room that a chunk asks for
abbrev pub hand_max : ℕ
hand_max = 128

-- ---- what is left

-- the text that is still to be written: before the first line the whole listing
abbrev pub rest : (s : List ℕ) → Way → List ℕ
rest s Open = listing s
rest s (Rows own from) = row_lines (own_row own.column s) from.0 (own.column.rows - from.0) ++ named_line (ascii "end ") own.column.rows
rest s Done = []

-- whether some is
abbrev pub is_more : Way → Bool
is_more Open = true
is_more (Rows own from) = true
is_more Done = false

-- a way that these bytes have
abbrev pub Stands : (s : List ℕ) → Way → Type 0
Stands s Open = Unit {0}
Stands s (Rows own from) = Owned s own.column own.pass × (from.0 ≤ own.column.rows)
Stands s Done = Unit {0}

-- ---- a chunk, where a longest line has room

-- the first line; the lines of rows, or the last line behind all rows
abbrev pub piece : (s : List ℕ) → Way → (room : ℕ) → List ℕ
piece s Open room = first_line (opened_here s)
piece s (Rows own from) room =
    pick (ltb from.0 own.column.rows) (chunk (row_line (own_row own.column s)) line_max own.column.rows room from.0) (named_line (ascii "end ") own.column.rows)
piece s Done room = []

-- the way behind the first line
abbrev pub way_of : Result (Own × ℕ) (ℕ × ℕ) → Way
way_of (Ok (own, n)) = Rows own (record { 0 = 0 })
way_of (Err (number, n)) = Done

-- the way behind a chunk
abbrev pub behind : (s : List ℕ) → Way → (room : ℕ) → Way
behind s Open room = way_of (begun s (opened_here s))
behind s (Rows own from) room =
    pick (ltb from.0 own.column.rows)
    (Rows (own_at s own.column (block_of own.column from.0)) (record { 0 = from.0 + chunk_rows (row_line (own_row own.column s)) line_max own.column.rows room from.0 })) Done
behind s Done room = Done

-- ---- the walk

-- the way through a listing, by its column's bytes
abbrev pub listing_walk : (s : List ℕ) → Walk Way
listing_walk s = record { most = hand_max; rest = rest s; piece = piece s; behind = behind s; Stands = Stands s }
