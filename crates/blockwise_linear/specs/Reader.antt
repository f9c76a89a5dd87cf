-- What the inner answers of reading mean, and what its inner functions ask.
-- Assumes nothing.
use Rattle.std.specs.Option.{option_or}
use Rattle.std.specs.Prelude.{ℕ, ◌+◌, ◌-◌, ◌*◌, ◌^◌, ◌≤◌, ◌<◌, min, ◌≡◌, List, [], leb, length, take, drop, Option}
use Rattle.format.specs.declared.Fields.{Fields}
use Rattle.format.specs.declared.Block.{Block}
use Rattle.format.specs.declared.Codec.TheVariants.{Blockwise}
use Rattle.format.specs.declared.Column.{Column}
use Rattle.format.specs.declared.Head.{Head}
use Rattle.format.specs.Outcome.{Outcome, Outcome.value, ◌>>=◌, ◌>>◌, demand}
use Rattle.format.specs.Word.{bytes_for}
use Rattle.format.specs.Packing.{bytes_num}
use Rattle.format.specs.Bodies.{block_count}
use Rattle.format.specs.Opening.{Table, column_of, read_fields, read_blocks}
use Rattle.format.specs.Sheets.{last_fields}
use Rattle.blockwise_linear.specs.declared.reader.Cursor.{Cursor}
use Rattle.blockwise_linear.specs.declared.reader.Last.{Last}
use Rattle.blockwise_linear.specs.declared.reader.Step.{Step}

-- the bytes before the footer's length: no field of the footer reaches into that
abbrev pub up_to_length : List ℕ → List ℕ
up_to_length s = take (length s - 4) s

-- the length of the footer, as the four bytes behind it say
abbrev pub length_in : List ℕ → ℕ
length_in s = bytes_num (drop (length s - 4) s)

-- the place of the first block of so many rows
abbrev pub first_cursor : (s : List ℕ) (rows : ℕ) → Cursor
first_cursor s rows = record { at = length s - 4 - length_in s; start = 0; left = rows }

-- the block of some fields at a place, the place behind it, and the offset of a longer field
abbrev pub step_of : Cursor → Fields → Step
step_of c f =
    record {
      block = record { line = f.line; bits = f.bits; start = c.start };
      next = record { at = f.next; start = c.start + bytes_for (f.bits * min c.left 512); left = c.left - 512 };
      longer = f.longer;
    }

-- reading the block at a place
unfoldable pub step_in : (s : List ℕ) → Cursor → Outcome Step
step_in s c = read_fields (up_to_length s) c.at >>= (λ (f : Fields). value (step_of c f))

-- reading all blocks from a place on
abbrev pub blocks_from : (s : List ℕ) → Cursor → Outcome Table
blocks_from s c = read_blocks (block_count c.left) (up_to_length s) c.at c.start c.left

-- what was read, as the bytes of the area and that offset alone
abbrev pub area_in : Outcome Table → Outcome (ℕ × Option ℕ)
area_in o = o >>= (λ (t : Table). value (t.area, t.longer))

-- and as the blocks alone
abbrev pub listed : Outcome Table → Outcome (List Block)
listed o = o >>= (λ (t : Table). value t.blocks)

-- the column of a head, its blocks' area and the offset of a longer field: the area has to end before the footer
abbrev pub column_over : Head → (footer : ℕ) → ℕ × Option ℕ → Outcome (Column × Option ℕ)
column_over h footer a =
    demand (leb (h.next + a.0) footer) 10 [] >> value (column_of h h.next a.0 Blockwise, option_or h.longer a.1)

-- the end of a footer of so many rows from an offset on: the last block's width, the offset behind its fields, and where the footer starts and ends
abbrev pub last_from : (s : List ℕ) (rows start : ℕ) → Outcome Last
last_from s rows start =
    last_fields (block_count rows) (up_to_length s) 0 start >>= (λ (f : ℕ × ℕ). value (record { bits = f.0; at = f.1; start = start; end = length s - 4 }))

-- the same from where the footer starts
abbrev pub last_in : (s : List ℕ) (rows : ℕ) → Outcome Last
last_in s rows = last_from s rows (first_cursor s rows).at

-- a place whose area can be counted: a row takes at most eight bytes
pub record Small (c : Cursor) : Type 0 where
  pub bytes : c.start + 8 * c.left < 2 ^ 36

-- an outcome that is no refusal
pub record Good {A : Type 0} (o : Outcome A) : Type 0 where
  pub found : A
  pub is : o ≡ value found

-- the blocks of so many rows were checked, and a table has room for them
pub record Fillable (s : List ℕ) (rows room : ℕ) : Type 0 where
  pub checked : Good (blocks_from s (first_cursor s rows))
  pub enough : block_count rows ≤ room
