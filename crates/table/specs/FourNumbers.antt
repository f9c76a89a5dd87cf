-- The block table as it was before it held records: a flat list of numbers, four a block: slope, intercept, width, start byte. Opening and reading by it stand here as rules of their own
-- over the bytes, which make no list of blocks; and when a table of records holds what such a list holds.
-- Assumes nothing.
use Rattle.std.specs.Option.{option_or}
use Rattle.std.specs.Prelude.{ℕ, zero, suc, ◌+◌, ◌-◌, ◌*◌, ◌/◌, ◌<◌, min, ◌≡◌, List, [], ◌∷◌, leb, length, take, drop, get_or, Option, None}
use Rattle.format.specs.declared.Block.{Block}
use Rattle.format.specs.declared.Codec.TheVariants.{Blockwise}
use Rattle.format.specs.declared.Column.{Column}
use Rattle.format.specs.declared.Fields.{Fields}
use Rattle.format.specs.declared.Head.{Head}
use Rattle.format.specs.Outcome.{Outcome, Outcome.value, Outcome.refusal, ◌>>=◌, ◌>>◌, demand}
use Rattle.format.specs.Word.{bytes_for}
use Rattle.format.specs.Packing.{bytes_num}
use Rattle.format.specs.Stats.{read_head}
use Rattle.format.specs.Bodies.{block_count}
use Rattle.format.specs.Opening.{Loaded, column_of, read_fields, open_bitpacked, open_linear}
use Rattle.format.specs.Reading.{column_row, block_at, row_in}

-- ---- opening

-- the numbers of some blocks, the bytes of their area, and the offset of their first field that is spelled longer than need be
pub record Numbers : Type 0 where
  pub list : List ℕ
  pub area : ℕ
  pub longer : Option ℕ

-- what opening finds: the column, the numbers for the table, and the offset of the first field that is spelled longer than need be
pub record LoadedNumbers : Type 0 where
  pub column : Column
  pub list : List ℕ
  pub longer : Option ℕ

-- a block's four numbers before the later ones
abbrev pub before : Fields → (start : ℕ) → Numbers → Numbers
before f start t =
    record {
      list = f.line.slope ∷ f.line.intercept ∷ f.bits ∷ start ∷ t.list;
      area = t.area;
      longer = option_or f.longer t.longer;
    }

-- k blocks of so many rows: their fields stand from an offset on; each starts where the one before ends, so 64 · width on
unfoldable pub read_numbers : (k : ℕ) (s : List ℕ) (at start rows : ℕ) → Outcome Numbers
read_numbers zero s at start rows = value (record { list = []; area = start; longer = None })
read_numbers (suc k) s at start rows = do
  f ← read_fields s at
  t ← read_numbers k s f.next (start + bytes_for (f.bits * min rows 512)) (rows - 512)
  value (before f start t)

-- Blockwise: the footer's 10, 11 with the blocks needed, the block fields, 10 for the area
unfoldable pub open_footer : (s : List ℕ) → Head → (room : ℕ) → Outcome LoadedNumbers
open_footer s h room = do
  demand (leb (h.next + 4) (length s)) 10 []
  let end = length s - 4
  let long = bytes_num (drop end s)
  demand (leb (h.next + long) end) 10 []
  demand (leb (block_count h.rows) room) 11 (block_count h.rows ∷ [])
  t ← read_numbers (block_count h.rows) (take end s) (end - long) 0 h.rows
  demand (leb (h.next + t.area) (end - long)) 10 []
  value (record { column = column_of h h.next t.area Blockwise; list = t.list; longer = option_or h.longer t.longer })

-- Bitpacked and Linear have no numbers for a table
abbrev pub without : Outcome Loaded → Outcome LoadedNumbers
without o = o >>= (λ (l : Loaded). value (record { column = l.column; list = []; longer = l.longer }))

-- the body of a codec by its number
unfoldable pub open_body_by : (codec : ℕ) (s : List ℕ) → Head → (room : ℕ) → Outcome LoadedNumbers
open_body_by zero s h room = without (open_bitpacked s h)
open_body_by (suc zero) s h room = without (open_linear s h)
open_body_by (suc (suc c)) s h room = open_footer s h room

-- opening some bytes, with a table of numbers that has room for so many blocks
unfoldable pub opened_numbers : (s : List ℕ) (room : ℕ) → Outcome LoadedNumbers
opened_numbers [] room = refusal 5 []
opened_numbers (c ∷ s) room = do
  demand (leb c 2) 5 []
  h ← read_head (c ∷ s)
  open_body_by c (c ∷ s) h room

-- what was found, as the column and that offset
abbrev pub column_by : Outcome LoadedNumbers → Outcome (Column × Option ℕ)
column_by o = o >>= (λ (l : LoadedNumbers). value (l.column, l.longer))

-- and as the numbers for the table alone
abbrev pub numbers_in : Outcome LoadedNumbers → Outcome (List ℕ)
numbers_in o = o >>= (λ (l : LoadedNumbers). value l.list)

-- ---- reading

-- how many blocks a flat list has room for
abbrev pub blocks_in : (t : List ℕ) → ℕ
blocks_in t = length t / 4

-- block b of a flat list: four numbers from 4 · b on, and 0 for each past the list's end
abbrev pub block_of_numbers : (t : List ℕ) (b : ℕ) → Block
block_of_numbers t b =
    record {
      line = record { slope = get_or t (4 * b) 0; intercept = get_or t (4 * b + 1) 0 };
      bits = get_or t (4 * b + 2) 0;
      start = get_or t (4 * b + 3) 0;
    }

-- row r of a column's window, by any flat list
abbrev pub row_by_numbers : Column → (t s : List ℕ) (r : ℕ) → Outcome ℕ
row_by_numbers col t s r = row_in col (blocks_in t) (block_of_numbers t (column_row col r / 512)) s r

-- ---- the records beside the numbers

-- the numbers of a table of records
unfoldable pub numbers_of : List Block → List ℕ
numbers_of [] = []
numbers_of (b ∷ bs) = b.line.slope ∷ b.line.intercept ∷ b.bits ∷ b.start ∷ numbers_of bs

-- a table of records holds what a flat list holds: as many blocks, and of each its four numbers
pub record Holds (t : List ℕ) (table : List Block) : Type 0 where
  pub count : length table ≡ blocks_in t
  pub each : (k : ℕ) → k < length table → block_at table k ≡ block_of_numbers t k
