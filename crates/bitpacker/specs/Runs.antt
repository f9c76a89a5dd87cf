-- Rows of one width, unpacked one after another into a list.
-- Assumes nothing.
use Rattle.std.specs.Prelude.{◌≡◌, true, List, ℕ, ◌+◌, ◌-◌, ◌*◌, ◌/◌, ◌%◌, ◌^◌, ◌≤◌, ◌<◌, get_or}
use Rattle.format.specs.Packing.{legal, unpack}

-- the first n entries of a list are the numbers of the rows from first on
pub record Unpacked (w : ℕ) (area : List ℕ) (first n : ℕ) (list : List ℕ) : Type 0 where
  pub sofar : (i : ℕ) → i < n → get_or list i 0 ≡ unpack w area (first + i)

-- number k of eight that start with a byte: eight bytes can be loaded where it starts
pub record Part (size at whole rest k w : ℕ) : Type 0 where
  pub lawful : legal w ≡ true
  pub wide : w ≡ 8 * whole + rest
  pub rests : rest < 8
  pub eighth : k < 8
  pub inside : at + w + 8 ≤ size

-- rows in whole groups of eight, the first of which starts with a byte, at each of which eight bytes can be loaded
pub record Groups (w rest first from to size rows : ℕ) : Type 0 where
  pub lawful : legal w ≡ true
  pub rests : rest ≡ w % 8
  pub starts : (first + from) % 8 ≡ 0
  pub ordered : from ≤ to
  pub eights : (to - from) % 8 ≡ 0
  pub inside : (first + to) * w / 8 + 8 ≤ size
  pub room : to ≤ rows
  pub few : first + rows ≤ 2 ^ 32

-- rows for which a list has room
pub record Singly (w first from to rows : ℕ) : Type 0 where
  pub lawful : legal w ≡ true
  pub ordered : from ≤ to
  pub room : to ≤ rows
  pub few : first + rows ≤ 2 ^ 32

-- an entry that whole groups of eight reach
pub record Reached (w first from to size rows : ℕ) : Type 0 where
  pub eights : (to - from) % 8 ≡ 0
  pub inside : (first + to) * w / 8 + 8 ≤ size
  pub room : to ≤ rows
