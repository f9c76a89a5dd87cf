-- Reading a row of an opened column, through its window. All rows are the column's own but those of the last part.
-- Assumes nothing.
use Rattle.std.specs.Prelude.{ℕ, ◌+◌, ◌*◌, ◌/◌, ◌%◌, ◌^◌, Bool, true, ◌&&◌, ◌||◌, List, [], ◌∷◌, map, ltb, leb, eqb, length, drop, get_or}
use Rattle.format.specs.declared.Codec.{Codec}
use Rattle.format.specs.declared.Codec.TheVariants.{Bitpacked, Linear, Blockwise}
use Rattle.format.specs.declared.Column.{Column}
use Rattle.format.specs.declared.Block.{Block}
use Rattle.format.specs.declared.Place.{Place}
use Rattle.format.specs.Outcome.{Outcome, Outcome.value, Outcome.refusal, ◌>>◌, demand}
use Rattle.format.specs.Word.{mod_add}
use Rattle.format.specs.Packing.{width, legal, unpack}
use Rattle.format.specs.Line.{line_at}

-- a block of zeros
abbrev pub no_block : Block
no_block = record { line = record { slope = 0; intercept = 0 }; bits = 0; start = 0 }

-- block b of a table; past the table's end it is a block of zeros
abbrev pub block_at : (t : List Block) (b : ℕ) → Block
block_at t b = get_or t b no_block

-- whether a table of so many blocks has a row's: row r of a column is row r % 512 of block r / 512
abbrev pub has_block : Codec → (blocks r : ℕ) → Bool
has_block Bitpacked blocks r = true
has_block (Linear l w) blocks r = true
has_block Blockwise blocks r = ltb (r / 512) blocks

-- ---- the window

-- row r of a column's window, as the column counts it
abbrev pub column_row : Column → (r : ℕ) → ℕ
column_row col r = col.window.first + r

-- whether the window lies in the column
abbrev pub window_fits : Column → Bool
window_fits col = leb (col.window.first + col.window.rows) col.rows

-- ---- a row's bits

-- where a row's number stands, by the codec and the row's block; Bitpacked's width comes from the count
unfoldable pub place_in : Codec → (count : ℕ) → Block → (r : ℕ) → Place
place_in Bitpacked count b r = record { start = 0; row = r; bits = width count }
place_in (Linear l w) count b r = record { start = 0; row = r; bits = w }
place_in Blockwise count b r = record { start = b.start; row = r % 512; bits = b.bits }

-- by the column and the row's block
abbrev pub place_of : Column → Block → (r : ℕ) → Place
place_of col b r = place_in col.codec col.count b r

-- whether a column and bytes fit together, whatever the row: the window, the gcd, the bounds, the area
unfoldable pub column_fits : Column → (s : List ℕ) → Bool
column_fits col s =
    window_fits col
    && ltb 0 col.gcd
    && ltb (col.minimum + col.count * col.gcd) (2 ^ 64)
    && leb (col.start + col.size) (length s)

-- whether a column and a table of so many blocks, with the row's block, fit together at a row: the block, its width, and, unless it has none, the row's bits
unfoldable pub row_fits : Column → (blocks : ℕ) → Block → (r : ℕ) → Bool
row_fits col blocks b r =
    let p = place_of col b r in
    has_block col.codec blocks r
    && legal p.bits
    && (eqb p.bits 0 || leb (8 * p.start + (p.row + 1) * p.bits) (8 * col.size))

-- whether column, table and bytes fit together at a row
unfoldable pub fits : Column → (blocks : ℕ) → Block → (s : List ℕ) (r : ℕ) → Bool
fits col blocks b s r = column_fits col s && row_fits col blocks b r

-- a row's packed number
unfoldable pub packed_of : Column → Block → (s : List ℕ) (r : ℕ) → ℕ
packed_of col b s r =
    let p = place_of col b r in
    unpack p.bits (drop (col.start + p.start) s) p.row

-- ---- its value

-- minimum + gcd · multiple; a multiple above the count is out of bounds
abbrev pub scaled : Column → (r multiple : ℕ) → Outcome ℕ
scaled col r multiple = demand (leb multiple col.count) 14 (r ∷ []) >> value (col.minimum + col.gcd * multiple)

-- the value of a row whose packed number is n
unfoldable pub value_in : Codec → Column → Block → (r n : ℕ) → Outcome ℕ
value_in Bitpacked col b r n = scaled col r n
value_in (Linear l w) col b r n =
    let v = mod_add (line_at l r) n in
    demand (leb col.minimum v && leb v (col.minimum + col.gcd * col.count)) 14 (r ∷ []) >> value v
value_in Blockwise col b r n = scaled col r (mod_add (line_at b.line (r % 512)) n)

-- the value of a row, with its block, where all fits together
abbrev pub value_at : Column → Block → (s : List ℕ) (r : ℕ) → Outcome ℕ
value_at col b s r = value_in col.codec col b r (packed_of col b s r)

-- ---- reading

-- what a row answers, with the row named as it was asked for
abbrev pub asked_as : (r : ℕ) → Outcome ℕ → Outcome ℕ
asked_as r (value v) = value v
asked_as r (refusal number also) = refusal number (map (λ (q : ℕ). r) also)

-- row r of a column's window, with its block out of a table of so many
unfoldable pub row_in : Column → (blocks : ℕ) → Block → (s : List ℕ) (r : ℕ) → Outcome ℕ
row_in col blocks b s r = do
  demand (ltb r col.window.rows) 12 []
  demand (fits col blocks b s (column_row col r)) 13 []
  asked_as r (value_at col b s (column_row col r))

-- reading row r of a column's window, with its table and its bytes; the block is that of the column's row
abbrev pub row_at : Column → (t : List Block) (s : List ℕ) (r : ℕ) → Outcome ℕ
row_at col t s r = row_in col (length t) (block_at t (column_row col r / 512)) s r
