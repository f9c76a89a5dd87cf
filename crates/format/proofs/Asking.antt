-- What a case asks of the definitions, and what they answer.
-- Assumes nothing.
use Rattle.std.specs.Prelude.{Option, Some, None}
use Prim.Native.Nat.{ℕ}
use mathlib.Core.List.{List, [], ◌∷◌, ◌++◌, map}
use Rattle.format.specs.declared.Block.{Block}
use Rattle.format.specs.declared.Codec.{Codec}
use Rattle.format.specs.declared.Codec.TheVariants.{Bitpacked, Linear, Blockwise}
use Rattle.format.specs.declared.Column.{Column}
use Rattle.format.specs.declared.Field.{Field}
use Rattle.format.specs.Outcome.{Outcome, ◌>>=◌, Outcome.value}
use Rattle.format.specs.Varint.{spell, read_varint}
use Rattle.format.specs.Packing.{width}
use Rattle.format.specs.Stats.{greatest}
use Rattle.format.specs.Line.{through, line_at, trained, residuals}
use Rattle.format.specs.Saving.{saving}
use Rattle.format.specs.Writing.{written}
use Rattle.format.specs.Opening.{Loaded, opened}
use Rattle.format.specs.Sheets.{opened_under}
use Rattle.format.specs.Reading.{row_at}
use Rattle.format.specs.Windows.{narrowed}
use Rattle.format.specs.Runs.{decoded}
use Rattle.format.specs.Lookup.{looked_up, within}
use Rattle.format.specs.Listing.{listing, opened_here}
use Rattle.format.specs.Comparing.{comparison}

-- a number's spelling; bytes and the offset of a field; its width; what a gcd saves over so many rows; the line of four values; codecs, values and room; bytes and blocks; the same, for the spelling;
-- a sheet, bytes and blocks; bytes, blocks and a row; a made-up column, table, bytes and a row; the same with how many rows; bytes, low, high, first, end and room; the same of a made-up column, with its table; a made-up column, a first row and how many; codecs, values and a row of what was written; bytes in a program;
-- the listing of bytes; the comparison of two
pub data Asked : Type 0 where
  spelling : ℕ → Asked
  field : List ℕ → ℕ → Asked
  width_of : ℕ → Asked
  saving_of : ℕ → ℕ → Asked
  training : List ℕ → Asked
  writing : List ℕ → List ℕ → ℕ → Asked
  opening : List ℕ → ℕ → Asked
  spelled : List ℕ → ℕ → Asked
  sheet : ℕ → List ℕ → ℕ → Asked
  reading : List ℕ → ℕ → ℕ → Asked
  made : Column → List Block → List ℕ → ℕ → Asked
  run : Column → List Block → List ℕ → ℕ → ℕ → Asked
  looking : List ℕ → ℕ → ℕ → ℕ → ℕ → ℕ → Asked
  lookup : Column → List Block → List ℕ → ℕ → ℕ → ℕ → ℕ → ℕ → Asked
  narrowing : Column → ℕ → ℕ → Asked
  returning : List ℕ → List ℕ → ℕ → Asked
  limited : List ℕ → Asked
  text : List ℕ → Asked
  pair : List ℕ → List ℕ → Asked

-- of four values: the slope of their line, the line with intercept 0 at the four places, the residuals, their width
unfoldable pub line_of : List ℕ → List ℕ
line_of vs =
    let l = trained vs in
    l.slope ∷ (map (line_at (through l.slope)) (0 ∷ 1 ∷ 2 ∷ 3 ∷ []) ++ (residuals l vs ++ (width (greatest (residuals l vs)) ∷ [])))

-- an opened column as a list: minimum, gcd, count, rows, start, size, codec with its numbers, table
abbrev pub codec_numbers : Codec → List ℕ
codec_numbers Bitpacked = 0 ∷ []
codec_numbers (Linear l w) = 1 ∷ l.slope ∷ l.intercept ∷ w ∷ []
codec_numbers Blockwise = 2 ∷ []

-- a block of a made-up table; and the blocks of a table as numbers, four a block
abbrev pub block : (slope intercept bits start : ℕ) → Block
block slope intercept bits start = record { line = record { slope = slope; intercept = intercept }; bits = bits; start = start }

abbrev pub table_numbers : List Block → List ℕ
table_numbers [] = []
table_numbers (b ∷ bs) = b.line.slope ∷ b.line.intercept ∷ b.bits ∷ b.start ∷ table_numbers bs

abbrev pub numbers_of : Loaded → List ℕ
numbers_of o =
    o.column.minimum ∷ o.column.gcd ∷ o.column.count ∷ o.column.rows ∷ o.column.start ∷ o.column.size
    ∷ (codec_numbers o.column.codec ++ table_numbers o.table)

-- a spelling as a list: the offset of the first longer one, or nothing
abbrev pub longer_at : Option ℕ → List ℕ
longer_at None = []
longer_at (Some offset) = offset ∷ []

-- one number as a list
abbrev pub alone : Outcome ℕ → Outcome (List ℕ)
alone o = o >>= (λ (v : ℕ). value (v ∷ []))

-- what the definitions answer
unfoldable pub answer : Asked → Outcome (List ℕ)
answer (spelling n) = value (spell n)
answer (field s at) = read_varint s at >>= (λ (f : Field). value (f.value ∷ f.next ∷ f.used ∷ longer_at f.longer))
answer (width_of n) = value (width n ∷ [])
answer (saving_of gcd rows) = value (saving gcd rows ∷ [])
answer (training vs) = value (line_of vs)
answer (writing cs vs room) = written vs cs room
answer (opening s room) = opened s room >>= (λ (o : Loaded). value (numbers_of o))
answer (spelled s room) = opened s room >>= (λ (o : Loaded). value (longer_at o.longer))
answer (sheet n s room) = opened_under n s room >>= (λ (o : Loaded). value (o.column.rows ∷ []))
answer (reading s room r) = opened s room >>= (λ (o : Loaded). alone (row_at o.column o.table s r))
answer (made col t s r) = alone (row_at col t s r)
answer (run col t s first n) = decoded (row_at col t s) col.window.rows first n
answer (looking s low high first end room) = opened s 1 >>= (λ (o : Loaded). looked_up (row_at o.column o.table s) o.column.window.rows (within low high) first end room)
answer (lookup col t s low high first end room) = looked_up (row_at col t s) col.window.rows (within low high) first end room
answer (narrowing col first count) = narrowed col first count >>= (λ (c : Column). value (c.rows ∷ c.window.first ∷ c.window.rows ∷ []))
answer (returning cs vs r) = written vs cs 5000 >>= (λ (s : List ℕ). opened s 9 >>= (λ (o : Loaded). alone (row_at o.column o.table s r)))
answer (limited s) = opened_here s >>= (λ (o : Loaded). value (numbers_of o))
answer (text s) = value (listing s)
answer (pair s t) = value (comparison s t)

infix 4 ◌gives◌
-- a case: what is asked, and the right answer
pub data Case : Type 0 where
  ◌gives◌ : Asked → Outcome (List ℕ) → Case

abbrev pub question : Case → Asked
question (q gives a) = q

abbrev pub said : Case → Outcome (List ℕ)
said (q gives a) = a
