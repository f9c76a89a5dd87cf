-- A walk over the rows of a lookup or a run in a window, chunk by chunk: what it is to store, what its passes have done so far, and what is left. Over any reading.
-- Assumes nothing.
use Rattle.format.specs.declared.Refusal.{Refusal}
use Rattle.format.specs.Refusals.{answered_by}
use Rattle.std.specs.Prelude.{ℕ, ◌+◌, ◌-◌, ◌/◌, ◌%◌, ◌^◌, ◌≤◌, ◌<◌, ◌≡◌, Bool, true, false, ◌⊎◌, List, [], ◌∷◌, leb, length, Result, Ok, Err}
use Rattle.std.proofs.lemmas.List.Edits.{sets}
use Rattle.format.specs.declared.Block.{Block}
use Rattle.format.specs.declared.Column.{Column}
use Rattle.format.specs.declared.Window.{Window}
use Rattle.format.specs.Outcome.{Outcome, Outcome.value, ◌>>=◌, ◌>>◌, demand, pick, how_many}
use Rattle.format.specs.Calls.{StoredAs}
use Rattle.format.specs.Reading.{block_at, row_at}
use Rattle.format.specs.Runs.{read_run}
use Rattle.read_walk.specs.declared.Walk.{Walk}
use Rattle.read_chunk.specs.Rows.{rows_among}
use Rattle.read_row.specs.Chunks.{chunk_size}

-- ---- what is stored

-- a run stores the values of its rows, a lookup those rows whose value passes a test
pub data Kept : Type 0 where
  all_values : Kept
  rows_of : (test : ℕ → Bool) → Kept

-- the entries for the values of the rows from r on
abbrev pub entries : Kept → (r : ℕ) (values : List ℕ) → List ℕ
entries all_values r values = values
entries (rows_of test) r values = rows_among test r values

-- storing the entries for some values into a list with so much room
abbrev pub kept : Kept → (room r : ℕ) (values : List ℕ) → Outcome (List ℕ)
kept k room r values =
    let found = entries k r values in
    demand (leb (length found) room) 15 (length found ∷ []) >> value found

-- what a walk over the rows from first to end finds
abbrev pub walked : Kept → (read : ℕ → Outcome ℕ) (first end room : ℕ) → Outcome (List ℕ)
walked k read first end room = read_run read first (end - first) >>= kept k room first

-- ---- a walk under way

-- the rows of the chunk at hand
abbrev pub next_chunk : Walk → ℕ
next_chunk w = chunk_size (w.base + w.at) (w.end - w.at)

-- it is going on, with rows left in its pass
pub record Going (w : Walk) : Type 0 where
  pub on : w.going ≡ true
  pub from : w.first ≤ w.at
  pub to : w.at < w.end
  pub few : w.n ≤ w.at

-- what is left: the rows of the pass at hand, and in the first pass those of the second
abbrev pub left : Walk → ℕ
left w = pick w.going (pick w.storing (w.end - w.at) ((w.end - w.first) + (w.end - w.at))) 0

-- whether a chunk is stored: the pass stores, and the chunk has its values
abbrev pub stores : Walk → Result (Unit {0}) Refusal → Bool
stores w (Ok tt) = w.storing
stores w (Err x) = false

-- the sizes that are known: the list of a run is as long as its rows, and a lookup over more than 512 rows that stores has its answer, since it has counted
abbrev pub Sized : Kept → (rows room : ℕ) (storing : Bool) (answer : Result ℕ Refusal) (o : Outcome (List ℕ)) → Type 0
Sized all_values rows room storing answer o = room ≡ rows
Sized (rows_of test) rows room storing answer o = storing ≡ true → 512 < rows → answered_by answer ≡ how_many o

-- it lies in one chunk, at its beginning, and a list of such a length has room for an entry a row
pub record Single (room : ℕ) (w : Walk) : Type 0 where
  pub begins : w.at ≡ w.first
  pub one : w.end - w.at ≤ 512 - (w.base + w.at) % 512
  pub enough : w.end - w.first ≤ room

-- an outcome that is no refusal
pub record Unrefused (o : Outcome (List ℕ)) : Type 0 where
  pub found : List ℕ
  pub is : o ≡ value found

-- in a pass: the rows done read as some values, whose entries are counted, and stand in the list if the pass stores; and it stores only where nothing is refused, or nothing is stored yet
pub record InPass (k : Kept) (read : ℕ → Outcome ℕ) (window : Window) (o : Outcome (List ℕ)) (before : List ℕ) (w : Walk) (list : List ℕ) : Type 0 where
  pub going : Going w
  pub based : w.base ≡ window.first
  pub inside : w.end ≤ window.rows
  pub sized : Sized k (w.end - w.first) (length before) w.storing w.answer o
  pub asked : o ≡ walked k read w.first w.end (length before)
  pub values : List ℕ
  pub sofar : read_run read w.first (w.at - w.first) ≡ value values
  pub count : w.n ≡ length (entries k w.first values)
  pub list_is : list ≡ pick w.storing (sets before 0 (entries k w.first values)) before
  pub clean : w.storing ≡ true → Single (length before) w ⊎ Unrefused o

-- a walk under way, which is to find o: in a pass, or over
pub record Walking (k : Kept) (read : ℕ → Outcome ℕ) (window : Window) (o : Outcome (List ℕ)) (before : List ℕ) (w : Walk) (list : List ℕ) : Type 0 where
  pub phase : pick w.going (InPass k read window o before w list) (StoredAs o w.answer before list)

-- ---- a turn

-- a turn with the block of the row at hand, out of a table of so many, goes on with a walk over the rows by that table
abbrev pub Keeps : Kept → (column : Column) (blocks : ℕ) (block : Block) (bytes : List ℕ) (w r : Walk) (list new : List ℕ) → Type 0
Keeps k column blocks block bytes w r list new =
    (table : List Block) (before : List ℕ) (o : Outcome (List ℕ))
    → blocks ≡ length table → block ≡ block_at table ((w.base + w.at) % 2 ^ 32 / 512)
    → Walking k (row_at column table bytes) column.window o before w list → Walking k (row_at column table bytes) column.window o before r new
