-- The way through an explanation, from chunk to chunk (text/specs/Way): what is still to be written, what is handed out next, and the way
-- behind it.
-- Assumes nothing.
use Rattle.std.specs.Prelude.{ℕ, ◌+◌, ◌-◌, Bool, true, false, List, [], eqb, length, Result, Ok, Err}
use Rattle.format.specs.declared.Column.{Column}
use Rattle.format.specs.Listing.{row_texts, opened_here}
use Rattle.format.specs.Outcome.{pick}
use Rattle.format.specs.Parts.{parts_of}
use Rattle.text.specs.Chunk.{chunk_rows, chunk}
use Rattle.text.specs.Way.{Walk}
use Rattle.text_explain.specs.declared.way.Way.{Way}
use Rattle.text_explain.specs.declared.way.Way.TheVariants.{Open, Parts, Done}
use Rattle.text_explain.specs.Chunk.{only_line, begun}
use Rattle.text_explain.specs.Explained.{part_max, text_at, explanation}

-- the room that a chunk asks for
abbrev pub hand_max : ℕ
hand_max = 128

-- the text that is still to be written: before the first line the whole explanation
abbrev pub rest : (s : List ℕ) → Way → List ℕ
rest s Open = explanation s
rest s (Parts c from) = row_texts (text_at s c) from (length (parts_of s c) - from)
rest s Done = []

-- whether some may be
abbrev pub is_more : Way → Bool
is_more Open = true
is_more (Parts c from) = true
is_more Done = false

-- a chunk, where a longest line has room: the line of a column that does not open; the lines of parts
abbrev pub piece : (s : List ℕ) → Way → (room : ℕ) → List ℕ
piece s Open room = only_line (opened_here s)
piece s (Parts c from) room = chunk (text_at s c) part_max (length (parts_of s c)) room from
piece s Done room = []

-- the way behind the beginning
abbrev pub way_of : Result Column ℕ → Way
way_of (Ok c) = Parts c 0
way_of (Err n) = Done

-- the way behind so many parts: its end, where none was left
abbrev pub way_next : Column → (from taken : ℕ) → Way
way_next c from taken = pick (eqb taken 0) Done (Parts c (from + taken))

-- the way behind a chunk
abbrev pub behind : (s : List ℕ) → Way → (room : ℕ) → Way
behind s Open room = way_of (begun (opened_here s))
behind s (Parts c from) room = way_next c from (chunk_rows (text_at s c) part_max (length (parts_of s c)) room from)
behind s Done room = Done

-- the walk: any way is one
abbrev pub explanation_walk : (s : List ℕ) → Walk Way
explanation_walk s = record { most = hand_max; rest = rest s; piece = piece s; behind = behind s; Stands = λ (_ : Way). Unit {0} }
