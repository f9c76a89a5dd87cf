-- A column explained: its parts in order of offset, each with its offset, length, name and number; in ASCII.
-- Assumes nothing.
use Rattle.std.specs.Prelude.{ℕ, List, [], ◌∷◌, ◌++◌, eqb, length, drop}
use Rattle.format.specs.declared.Codec.{Codec}
use Rattle.format.specs.declared.Codec.TheVariants.{Bitpacked, Linear, Blockwise}
use Rattle.format.specs.declared.Column.{Column}
use Rattle.format.specs.declared.Part.{Part}
use Rattle.format.specs.declared.PartName.{PartName}
use Rattle.format.specs.declared.PartName.TheVariants.{Code, Minimum, Gcd, Count, Rows, Slope, Intercept, Width, Area, Behind, BlockSlope, BlockIntercept, BlockWidth, Spare, FooterLength}
use Rattle.format.specs.declared.Shape.{Shape}
use Rattle.format.specs.declared.Shape.TheVariants.{Varint, Byte, Four, Area as AreaBytes, Behind as BehindBytes, Spare as SpareBytes}
use Rattle.format.specs.Outcome.{Outcome, Outcome.value, Outcome.refusal, pick}
use Rattle.format.specs.Opening.{Loaded}
use Rattle.format.specs.Packing.{width}
use Rattle.format.specs.Parts.{shape_of, parts_of}
use Rattle.format.specs.Listing.{ascii, decimal, named, named_line, row_texts, opened_here}
use Rattle.text_explain.specs.declared.lines.Said.{Said}
use Rattle.text_explain.specs.declared.lines.Said.TheVariants.{Number, Bits, Nothing}

-- ---- names

-- the longest name: that of the intercept of a block with a number of ten digits
abbrev pub name_max : ℕ
name_max = 26

-- a part's name in words
abbrev pub name_text : PartName → List ℕ
name_text Code = ascii "code"
name_text Minimum = ascii "minimum"
name_text Gcd = ascii "gcd"
name_text Count = ascii "count"
name_text Rows = ascii "rows"
name_text Slope = ascii "slope"
name_text Intercept = ascii "intercept"
name_text Width = ascii "width"
name_text Area = ascii "area"
name_text Behind = ascii "behind"
name_text (BlockSlope k) = named (ascii "block ") k ++ ascii " slope"
name_text (BlockIntercept k) = named (ascii "block ") k ++ ascii " intercept"
name_text (BlockWidth k) = named (ascii "block ") k ++ ascii " width"
name_text Spare = ascii "spare"
name_text FooterLength = ascii "footer length"

-- ---- what is said behind the name

-- of the area: the bits a row; those of a Blockwise column's blocks are parts of their own
abbrev pub area_said : Codec → (count : ℕ) → Said
area_said Bitpacked count = Bits (width count)
area_said (Linear l w) count = Bits w
area_said Blockwise count = Nothing

-- by how a part is spelled: its number, or what is said of the area, or nothing where no rule reads the bytes
abbrev pub said_in : Shape → (number : ℕ) (area : Said) → Said
said_in Varint number area = Number number
said_in Byte number area = Number number
said_in Four number area = Number number
said_in AreaBytes number area = area
said_in BehindBytes number area = Nothing
said_in SpareBytes number area = Nothing

-- as text
abbrev pub said_text : Said → List ℕ
said_text (Number n) = named (ascii " ") n
said_text (Bits n) = named (ascii " bits ") n
said_text Nothing = []

-- ---- lines

-- the longest line: two numbers of twenty digits, the longest name, a number of twenty digits, three spaces and the line feed
abbrev pub part_max : ℕ
part_max = 90

-- a part's offset and length
unfoldable pub place_text : (first bytes : ℕ) → List ℕ
place_text first bytes = decimal first ++ (named (ascii " ") bytes ++ ascii " ")

-- a part's line
unfoldable pub part_line : Column → Part → List ℕ
part_line col p =
    place_text p.first p.bytes
    ++ (name_text p.name ++ (said_text (said_in (shape_of p.name) p.value (area_said col.codec col.count)) ++ ascii "\n"))

-- a part's text: its line, or nothing where it has no bytes
abbrev pub part_text : Column → Part → List ℕ
part_text col p = pick (eqb p.bytes 0) [] (part_line col p)

-- that of the first of some parts
abbrev pub first_text : Column → List Part → List ℕ
first_text col [] = []
first_text col (p ∷ ps) = part_text col p

-- that of part n of a column's bytes
abbrev pub text_at : (s : List ℕ) → Column → (n : ℕ) → List ℕ
text_at s col n = first_text col (drop n (parts_of s col))

-- ---- the explanation

-- of what opening found: the text of all parts, or its refusal as the only line
abbrev pub explained_or : Outcome Loaded → (s : List ℕ) → List ℕ
explained_or (value o) s = row_texts (text_at s o.column) 0 (length (parts_of s o.column))
explained_or (refusal number also) s = named_line (ascii "refused ") number

-- what the program writes of some bytes
unfoldable pub explanation : (s : List ℕ) → List ℕ
explanation s = explained_or (opened_here s) s
