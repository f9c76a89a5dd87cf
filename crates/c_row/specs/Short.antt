-- The short way to a row: what its steps found, as facts about the twelve numbers of a column.
-- Assumes nothing.
use Rattle.std.specs.Prelude.{ℕ, ◌+◌, ◌*◌, ◌^◌, ◌≤◌, ◌<◌, ◌≡◌, List, length, drop, get_or}
use Rattle.format.specs.declared.Block.{Block}
use Rattle.format.specs.declared.Column.{Column}
use Rattle.format.specs.Outcome.{Outcome, ◌>>=◌}
use Rattle.format.specs.Packing.{unpack}
use Rattle.format.specs.Reading.{row_in}
use Rattle.c_numbers.specs.Numbers.{column_from}

-- row r of the column of twelve numbers, with its block out of a table of so many
abbrev pub row_of : (ns : List ℕ) (blocks : ℕ) (b : Block) (s : List ℕ) (r : ℕ) → Outcome ℕ
row_of ns blocks b s r = column_from ns >>= (λ (col : Column). row_in col blocks b s r)

-- the window lies in the column, whose rows are below 2^32, and its row r is row q of the column
pub record Shown (ns : List ℕ) (r q : ℕ) : Type 0 where
  pub few : get_or ns 4 0 < 2 ^ 32
  pub shown : r < get_or ns 11 0
  pub window : get_or ns 10 0 + get_or ns 11 0 ≤ get_or ns 4 0
  pub place : q ≡ get_or ns 10 0 + r

-- the gcd is above 0, and the maximum has 64 bits
pub record Bounded (ns : List ℕ) (maximum : ℕ) : Type 0 where
  pub step : 0 < get_or ns 2 0
  pub most : maximum ≡ get_or ns 1 0 + get_or ns 3 0 * get_or ns 2 0
  pub below : maximum < 2 ^ 64

-- a multiple is not above the count, and v is the value so many steps of the gcd above the minimum
pub record Raised (ns : List ℕ) (multiple v : ℕ) : Type 0 where
  pub bounded : Bounded ns (get_or ns 1 0 + get_or ns 3 0 * get_or ns 2 0)
  pub counted : multiple ≤ get_or ns 3 0
  pub value_is : v ≡ get_or ns 1 0 + get_or ns 2 0 * multiple

-- the area lies within the bytes, and n is number i of w bits of the run that starts with a byte of it, which ends within the area
pub record Stands (ns s : List ℕ) (start w i n : ℕ) : Type 0 where
  pub area : get_or ns 5 0 + get_or ns 6 0 ≤ length s
  pub ends : 8 * start + (i + 1) * w ≤ 8 * get_or ns 6 0
  pub number : n ≡ unpack w (drop (get_or ns 5 0 + start) s) i
