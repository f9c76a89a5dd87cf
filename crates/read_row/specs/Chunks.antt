-- Rows are decoded in chunks, none of which crosses a multiple of 512 of the column's rows: what decoding one asks for and answers.
-- Assumes nothing.
use Rattle.format.specs.declared.Refusal.{Refusal}
use Rattle.std.specs.Prelude.{ℕ, ◌+◌, ◌-◌, ◌*◌, ◌%◌, ◌^◌, ◌≤◌, ◌<◌, min, ◌≡◌, true, ◌⊎◌, List, length, Result, Ok, Err}
use Rattle.format.specs.declared.Column.{Column}
use Rattle.format.specs.declared.Place.{Place}
use Rattle.format.specs.Outcome.{Outcome, Outcome.value}
use Rattle.format.specs.Packing.{legal}
use Rattle.format.specs.Refusals.{numbered}
use Rattle.format.specs.Runs.{filled_to}

-- what decoding a chunk found, in a list of its size
abbrev pub chunk_meaning : Result (Unit {0}) Refusal → (list : List ℕ) → Outcome (List ℕ)
chunk_meaning (Ok tt) list = value list
chunk_meaning (Err r) list = numbered r

-- decoding a chunk found o, in a list of its size
pub record DecodedAs (o : Outcome (List ℕ)) (r : Result (Unit {0}) Refusal) (list : List ℕ) : Type 0 where
  pub answer : chunk_meaning r list ≡ o

-- filling a list from row r on found o, n entries on
pub record FilledAs (o : Outcome (List ℕ)) (n r : ℕ) (list : List ℕ) : Type 0 where
  pub answer : filled_to n r list ≡ o

-- n of so many rows from r on, at least one, in one block, where the first of all is row `first` of the column
pub record Chunk (rows first r n : ℕ) : Type 0 where
  pub some : 0 < n
  pub inside : r + n ≤ rows
  pub one : (first + r) % 512 + n ≤ 512

-- what fitting together says of a place: a maximum of 64 bits, a legal width, an area within the bytes, and the place's bits within it if it has any
pub record Fitting (col : Column) (p : Place) (s : List ℕ) : Type 0 where
  pub bounds : col.minimum + col.count * col.gcd < 2 ^ 64
  pub lawful : legal p.bits ≡ true
  pub area : col.start + col.size ≤ length s
  pub inside : (p.bits ≡ 0) ⊎ (8 * p.start + (p.row + 1) * p.bits ≤ 8 * col.size)

-- the rows of the chunk that begins with row q of the column, where so many are left: those, or up to the next multiple of 512
abbrev pub chunk_size : (q left : ℕ) → ℕ
chunk_size q left = min left (512 - q % 512)
