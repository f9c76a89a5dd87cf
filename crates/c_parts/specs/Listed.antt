-- The parts of a column from a place on, as plain numbers, and the place behind them.
-- Assumes nothing.
use Rattle.std.specs.Prelude.{ℕ, ◌+◌, ◌/◌, ◌≡◌, List, [], ◌∷◌, ◌++◌, leb, length, take, drop, get_or}
use Rattle.std.proofs.lemmas.List.Edits.{sets}
use Rattle.format.specs.declared.Column.{Column}
use Rattle.format.specs.declared.Part.{Part}
use Rattle.format.specs.Outcome.{Outcome, Outcome.value, ◌>>=◌, ◌>>◌, demand, stored}
use Rattle.format.specs.Parts.{names, part_end, parts_from}
use Rattle.byte_part.specs.declared.Cursor.{Cursor}
use Rattle.c_numbers.specs.Explaining.{part_numbers}
use Rattle.c_numbers.specs.Numbers.{column_from, told, or_zero, filled}
use Rattle.c_parts.specs.declared.Filled.{Filled}

-- ---- parts and places

-- the parts of a column from a place on
abbrev pub parts_at : (s : List ℕ) → Column → Cursor → List Part
parts_at s col c = parts_from s col c.at (drop c.number (names col.codec col.rows))

-- the place behind some parts that stand at a place
unfoldable pub behind : Cursor → List Part → Cursor
behind c [] = c
behind c (p ∷ ps) = behind (record { number = c.number + 1; at = part_end p }) ps

-- ---- as numbers

-- parts as numbers, five each
unfoldable pub parts_numbers : List Part → List ℕ
parts_numbers [] = []
parts_numbers (p ∷ ps) = part_numbers p ++ parts_numbers ps

-- a place as two: the number of the next part, and where it begins
abbrev pub place_numbers : Cursor → List ℕ
place_numbers c = c.number ∷ c.at ∷ []

-- the place of two numbers
abbrev pub place_of : List ℕ → Cursor
place_of ns = record { number = get_or ns 0 0; at = get_or ns 1 0 }

-- ---- what a call finds

-- some parts, and the place behind them
pub record Listed : Type 0 where
  pub parts : List Part
  pub place : Cursor

-- those from a place on for which a list of so many numbers has room
abbrev pub listed : (s : List ℕ) → Column → Cursor → (room : ℕ) → Listed
listed s col c room = let ps = take (room / 5) (parts_at s col c) in record { parts = ps; place = behind c ps }

-- the column of twelve numbers, whose area has to lie in the bytes
abbrev pub column_in : (ns s : List ℕ) → Outcome Column
column_in ns s = column_from ns >>= (λ (col : Column). demand (leb (col.start + col.size) (length s)) 13 [] >> value col)

-- those of the column of twelve numbers, whose area has to lie in the bytes
abbrev pub listed_from : (ns s place : List ℕ) (room : ℕ) → Outcome Listed
listed_from ns s place room =
    column_from ns >>= (λ (col : Column). demand (leb (col.start + col.size) (length s)) 13 [] >> value (listed s col (place_of place) room))

-- ---- what a call leaves

-- the parts in a lent list, how many they are, and the place behind them
pub record Fills (s : List ℕ) (col : Column) (from : Cursor) (r : Filled) (before after : List ℕ) : Type 0 where
  pub count : r.parts ≡ length (listed s col from (length before)).parts
  pub place : r.behind ≡ (listed s col from (length before)).place
  pub list : after ≡ sets before 0 (parts_numbers (listed s col from (length before)).parts)

-- the same as a caller finds it, with the numbers of the refusal
pub record Walks (outcome : Outcome Listed) (result : ℕ) (refusal place place' before after : List ℕ) : Type 0 where
  pub result_is : result ≡ or_zero (outcome >>= (λ (w : Listed). value (length w.parts)))
  pub refusal_is : refusal ≡ told outcome
  pub place_is : place' ≡ filled (outcome >>= (λ (w : Listed). value (place_numbers w.place))) place
  pub list_is : after ≡ stored (outcome >>= (λ (w : Listed). value (parts_numbers w.parts))) before
