-- The parts of a column's bytes, in order of offset, and the rows that own a bit of a byte.
-- Assumes nothing.
use Rattle.std.specs.Prelude.{ℕ, zero, suc, ◌+◌, ◌-◌, ◌*◌, ◌/◌, min, ◌&&◌, List, [], ◌∷◌, ◌++◌, ltb, leb, length, drop, get_or, Option, Some, None}
use Rattle.std.specs.Option.{option_or}
use Rattle.format.specs.declared.Field.{Field}
use Rattle.format.specs.declared.Codec.{Codec}
use Rattle.format.specs.declared.Codec.TheVariants.{Bitpacked, Linear, Blockwise}
use Rattle.format.specs.declared.Column.{Column}
use Rattle.format.specs.declared.Block.{Block}
use Rattle.format.specs.declared.PartName.{PartName}
use Rattle.format.specs.declared.PartName.TheVariants.{Code, Minimum, Gcd, Count, Rows, Slope, Intercept, Width, Area, Behind, BlockSlope, BlockIntercept, BlockWidth, Spare, FooterLength}
use Rattle.format.specs.declared.Shape.{Shape}
use Rattle.format.specs.declared.Shape.TheVariants.{Varint, Byte, Four, Area as AreaBytes, Behind as BehindBytes, Spare as SpareBytes}
use Rattle.format.specs.declared.Part.{Part}
use Rattle.format.specs.Outcome.{Outcome, Outcome.value, Outcome.refusal, pick}
use Rattle.format.specs.Varint.{read_varint}
use Rattle.format.specs.Packing.{width, legal, bytes_num}
use Rattle.format.specs.Bodies.{block_count}
use Rattle.format.specs.Reading.{block_at}

-- ---- which parts there are, in their order

-- the code byte and the head
abbrev pub head_names : List PartName
head_names = Code ∷ Minimum ∷ Gcd ∷ Count ∷ Rows ∷ []

-- before the packed area: Linear's line and width too
abbrev pub names_before : Codec → List PartName
names_before Bitpacked = head_names
names_before (Linear l w) = head_names ++ (Slope ∷ Intercept ∷ Width ∷ [])
names_before Blockwise = head_names

-- the fields of n blocks, from block k on
unfoldable pub block_names : (k n : ℕ) → List PartName
block_names k zero = []
block_names k (suc n) = BlockSlope k ∷ BlockIntercept k ∷ BlockWidth k ∷ block_names (suc k) n

-- behind the area and the bytes that follow it: Blockwise's footer and its length
abbrev pub names_footer : Codec → (rows : ℕ) → List PartName
names_footer Bitpacked rows = []
names_footer (Linear l w) rows = []
names_footer Blockwise rows = block_names 0 (block_count rows) ++ (Spare ∷ FooterLength ∷ [])

-- all of them
abbrev pub names : Codec → (rows : ℕ) → List PartName
names codec rows = names_before codec ++ (Area ∷ Behind ∷ names_footer codec rows)

-- ---- how many bytes each has, and what they spell

-- how each is spelled
abbrev pub shape_of : PartName → Shape
shape_of Code = Byte
shape_of Minimum = Varint
shape_of Gcd = Varint
shape_of Count = Varint
shape_of Rows = Varint
shape_of Slope = Varint
shape_of Intercept = Varint
shape_of Width = Byte
shape_of Area = AreaBytes
shape_of Behind = BehindBytes
shape_of (BlockSlope k) = Varint
shape_of (BlockIntercept k) = Varint
shape_of (BlockWidth k) = Byte
shape_of Spare = SpareBytes
shape_of FooterLength = Four

-- the bytes of a varint that was read
abbrev pub spelled_in : Outcome Field → ℕ
spelled_in (value f) = f.used
spelled_in (refusal number also) = 0

-- and its number
abbrev pub number_in : Outcome Field → ℕ
number_in (value f) = f.value
number_in (refusal number also) = 0

-- the footer's length: the last four bytes
abbrev pub footer_length : List ℕ → ℕ
footer_length s = bytes_num (drop (length s - 4) s)

-- where the footer begins: it ends before those
abbrev pub footer_at : List ℕ → ℕ
footer_at s = length s - 4 - footer_length s

-- where the bytes behind the area end: with the last byte, or where the footer begins
abbrev pub behind_end : Codec → List ℕ → ℕ
behind_end Bitpacked s = length s
behind_end (Linear l w) s = length s
behind_end Blockwise s = footer_at s

-- a part's bytes, by where it begins
unfoldable pub extent : (s : List ℕ) → Column → Shape → (at : ℕ) → ℕ
extent s col Varint at = spelled_in (read_varint s at)
extent s col Byte at = 1
extent s col Four at = 4
extent s col AreaBytes at = col.size
extent s col BehindBytes at = behind_end col.codec s - at
extent s col SpareBytes at = length s - 4 - at

-- the number that they spell, 0 where they spell none
unfoldable pub spelled : (s : List ℕ) → Shape → (at : ℕ) → ℕ
spelled s Varint at = number_in (read_varint s at)
spelled s Byte at = get_or s at 0
spelled s Four at = footer_length s
spelled s AreaBytes at = 0
spelled s BehindBytes at = 0
spelled s SpareBytes at = 0

-- ---- the parts

-- the part of a name that begins at an offset; no part goes past the last byte
abbrev pub part_here : (s : List ℕ) → Column → PartName → (at : ℕ) → Part
part_here s col n at =
    record { name = n; first = at; bytes = min (extent s col (shape_of n) at) (length s - at); value = spelled s (shape_of n) at }

-- the offset behind a part
abbrev pub part_end : Part → ℕ
part_end p = p.first + p.bytes

-- parts of some names from an offset on: each begins where the one before ends
unfoldable pub parts_from : (s : List ℕ) → Column → (at : ℕ) → List PartName → List Part
parts_from s col at [] = []
parts_from s col at (n ∷ ns) = part_here s col n at ∷ parts_from s col (part_end (part_here s col n at)) ns

-- all parts of a column's bytes
abbrev pub parts_of : (s : List ℕ) → Column → List Part
parts_of s col = parts_from s col 0 (names col.codec col.rows)

-- the first part that ends behind an offset
unfoldable pub part_in : List Part → (i : ℕ) → Option Part
part_in [] i = None
part_in (p ∷ ps) i = pick (ltb i (part_end p)) (Some p) (part_in ps i)

-- the part that holds the byte at an offset; none past the last byte
abbrev pub part_at : (s : List ℕ) → Column → (i : ℕ) → Option Part
part_at s col i = part_in (parts_of s col) i

-- ---- the rows of a byte

-- some rows' numbers of so many bits each, one after another from a byte of the area on; the first of them is row `first`
pub record Run : Type 0 where
  pub start : ℕ
  pub bits : ℕ
  pub first : ℕ
  pub rows : ℕ

-- the rows of a run that own a bit of byte j of the area: from that of the byte's first bit to that of its last, unless filling bits are all it has
unfoldable pub run_owners : Run → (j : ℕ) → Option (ℕ × ℕ)
run_owners u j =
    let bit = 8 * (j - u.start) in
    pick (legal u.bits && leb u.start j && ltb bit (u.rows * u.bits))
    (Some (u.first + bit / u.bits, u.first + min ((bit + 7) / u.bits) (u.rows - 1)))
    None

-- the rows of block k, of so many in all blocks
abbrev pub block_run : (table : List Block) (rows k : ℕ) → Run
block_run t rows k = record { start = (block_at t k).start; bits = (block_at t k).bits; first = 512 * k; rows = min (rows - 512 * k) 512 }

-- the same over n blocks from block k on
unfoldable pub block_owners : (table : List Block) (rows k n j : ℕ) → Option (ℕ × ℕ)
block_owners t rows k zero j = None
block_owners t rows k (suc n) j = option_or (run_owners (block_run t rows k) j) (block_owners t rows (suc k) n j)

-- by the codec
unfoldable pub area_owners : Codec → (count rows : ℕ) (table : List Block) (j : ℕ) → Option (ℕ × ℕ)
area_owners Bitpacked count rows t j = run_owners (record { start = 0; bits = width count; first = 0; rows = rows }) j
area_owners (Linear l w) count rows t j = run_owners (record { start = 0; bits = w; first = 0; rows = rows }) j
area_owners Blockwise count rows t j = block_owners t rows 0 (block_count rows) j

-- the rows that own a bit of the byte at an offset; none does before the area
unfoldable pub owners_at : Column → (table : List Block) (i : ℕ) → Option (ℕ × ℕ)
owners_at col t i = pick (leb col.start i) (area_owners col.codec col.count col.rows t (i - col.start)) None
