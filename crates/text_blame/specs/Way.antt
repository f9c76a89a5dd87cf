-- The way through a blame, from chunk to chunk (text/specs/Way): what is still to be written, what is handed out next, and the way
-- behind it.
-- Assumes nothing.
use Rattle.format.specs.declared.Column.{Column}
use Rattle.std.specs.Prelude.{ℕ, ◌+◌, ◌-◌, Bool, true, false, List, [], ◌++◌, ltb, length, Result, Ok, Err}
use Rattle.format.specs.Listing.{row_texts, opened_here}
use Rattle.format.specs.Outcome.{pick}
use Rattle.text.specs.Chunk.{chunk_rows, chunk}
use Rattle.text.specs.Way.{Walk}
use Rattle.text_column.specs.Own.{Opens}
use Rattle.text_blame.specs.declared.way.At.{At}
use Rattle.text_blame.specs.declared.way.Way.{Way}
use Rattle.text_blame.specs.declared.way.Way.TheVariants.{Open, Bytes, Done}
use Rattle.text_blame_bytes.specs.Owners.{owners_found}
use Rattle.text_blame_bytes.specs.Tallies.{tallied}
use Rattle.text_blame_lines.specs.Bytes.{blame_max, text_at, end_line}
use Rattle.text_blame.specs.Beginning.{starts, begun, line_in, blame}

-- the room that a chunk asks for: no text of an offset takes more, and no line
abbrev pub hand_max : ℕ
hand_max = 512

-- ---- two columns

-- the text of an offset
abbrev pub text_of : At → (s t : List ℕ) (i : ℕ) → List ℕ
text_of a s t i = text_at a.left s a.right t i

-- the last line
abbrev pub end_of : At → (s t : List ℕ) → List ℕ
end_of a s t = end_line (tallied (owners_found a.left s) s t)

-- behind a chunk
abbrev pub at_next : At → (s t : List ℕ) (room : ℕ) → At
at_next a s t room = record { left = a.left; right = a.right; from = a.from + chunk_rows (text_of a s t) blame_max (length s) room a.from }

-- ---- what is left

-- the text that is still to be written: before the first line the whole blame; then the text of the offsets left, and the last line
abbrev pub rest : (s t : List ℕ) → Way → List ℕ
rest s t Open = blame s t
rest s t (Bytes a) = row_texts (text_of a s t) a.from (length s - a.from) ++ end_of a s t
rest s t Done = []

-- whether some is
abbrev pub is_more : Way → Bool
is_more Open = true
is_more (Bytes a) = true
is_more Done = false

-- a way that these bytes have
abbrev pub Stands : (s t : List ℕ) → Way → Type 0
Stands s t Open = Unit {0}
Stands s t (Bytes a) = Opens s a.left × Opens t a.right
Stands s t Done = Unit {0}

-- ---- a chunk, where a longest text has room

-- the only line, if there is but one; the text of offsets, or the last line behind all of them
abbrev pub piece : (s t : List ℕ) → Way → (room : ℕ) → List ℕ
piece s t Open room = line_in (starts (opened_here s) (opened_here t) s t)
piece s t (Bytes a) room = pick (ltb a.from (length s)) (chunk (text_of a s t) blame_max (length s) room a.from) (end_of a s t)
piece s t Done room = []

-- the way behind the beginning
abbrev pub way_of : Result (Column × Column) ℕ → Way
way_of (Ok (c, d)) = Bytes (record { left = c; right = d; from = 0 })
way_of (Err n) = Done

-- the way behind a chunk
abbrev pub behind : (s t : List ℕ) → Way → (room : ℕ) → Way
behind s t Open room = way_of (begun (starts (opened_here s) (opened_here t) s t))
behind s t (Bytes a) room = pick (ltb a.from (length s)) (Bytes (at_next a s t room)) Done
behind s t Done room = Done

-- ---- the walk

-- the way through a blame, by its two columns' bytes
abbrev pub blame_walk : (s t : List ℕ) → Walk Way
blame_walk s t = record { most = hand_max; rest = rest s t; piece = piece s t; behind = behind s t; Stands = Stands s t }
