-- Rows' text in chunks, over any text of a row and the most bytes that one takes: what one call writes and answers, and what call after call writes.
-- Assumes nothing.
use Rattle.std.specs.Prelude.{ℕ, zero, suc, ◌+◌, ◌-◌, List, [], ◌++◌, ltb, length}
use Rattle.format.specs.Outcome.{pick}
use Rattle.format.specs.Listing.{row_texts}
use Rattle.text.specs.declared.Filled.{Filled}

-- how many of n rows from r on go into so many bytes: a row's text is written while one of `most` bytes has room
unfoldable pub rows_for : (text : ℕ → List ℕ) (most room r n : ℕ) → ℕ
rows_for text most room r zero = 0
rows_for text most room r (suc n) = pick (ltb room most) 0 (suc (rows_for text most (room - length (text r)) (suc r) n))

-- how many of so many rows a chunk takes from row r on
abbrev pub chunk_rows : (text : ℕ → List ℕ) (most rows room r : ℕ) → ℕ
chunk_rows text most rows room r = rows_for text most room r (rows - r)

-- their text
abbrev pub chunk : (text : ℕ → List ℕ) (most rows room r : ℕ) → List ℕ
chunk text most rows room r = row_texts text r (chunk_rows text most rows room r)

-- how many rows they are, and how many bytes
abbrev pub filled : (text : ℕ → List ℕ) (most rows room r : ℕ) → Filled
filled text most rows room r = record { rows = chunk_rows text most rows room r; bytes = length (chunk text most rows room r) }

-- what so many calls write, each from the row on where the one before ended
unfoldable pub chunks : (turns : ℕ) (text : ℕ → List ℕ) (most rows room r : ℕ) → List ℕ
chunks zero text most rows room r = []
chunks (suc turns) text most rows room r = chunk text most rows room r ++ chunks turns text most rows room (r + chunk_rows text most rows room r)
