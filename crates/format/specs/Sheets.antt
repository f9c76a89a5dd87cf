-- Acceptance sheets. Sheet 1 is opening as it stands. Sheet 2 asks besides that every number has its shortest spelling, that no byte belongs to no part, and
-- that the bits which fill up the area's last byte are 0.
-- Assumes nothing.
use Rattle.std.specs.Prelude.{ℕ, zero, suc, ◌+◌, ◌-◌, ◌*◌, ◌/◌, ◌%◌, ◌^◌, min, ◌&&◌, List, [], ◌∷◌, ◌++◌, ltb, length, take, drop, get_or, Option, Some, None}
use Rattle.format.specs.declared.Codec.{Codec}
use Rattle.format.specs.declared.Codec.TheVariants.{Bitpacked, Linear, Blockwise}
use Rattle.format.specs.declared.Column.{Column}
use Rattle.format.specs.declared.Block.{Block}
use Rattle.format.specs.declared.Fields.{Fields}
use Rattle.format.specs.Outcome.{Outcome, Outcome.value, Outcome.refusal, ◌>>=◌, ◌>>◌, pick}
use Rattle.format.specs.Varint.{spell}
use Rattle.format.specs.Packing.{width, bytes_num}
use Rattle.format.specs.Bodies.{block_count}
use Rattle.format.specs.Opening.{Loaded, read_fields, opened}
use Rattle.format.specs.Listing.{code_of}

-- ---- offending bytes

-- the lower of two offsets, where there are any
abbrev pub lower : Option ℕ → Option ℕ → Option ℕ
lower None b = b
lower (Some a) None = Some a
lower (Some a) (Some b) = Some (min a b)

-- the first of the bytes from one offset up to another, where there are any
abbrev pub unclaimed : (from to : ℕ) → Option ℕ
unclaimed from to = pick (ltb from to) (Some from) None

-- an area's last byte, where bits of it above the last rows' are not 0; so many bits of it are rows'
abbrev pub overfull : (s : List ℕ) (last bits : ℕ) → Option ℕ
overfull s last bits = pick (ltb 0 bits && ltb 0 (get_or s last 0 / 2 ^ bits)) (Some last) None

-- ---- what is known of a column's end

-- the width of the last rows, the offset where the bytes behind the area have to be a part again, and the strays behind it
pub record Ending : Type 0 where
  pub bits : ℕ
  pub resumes : ℕ
  pub later : Option ℕ

-- the width of the last of k blocks, and the offset behind its fields: the fields of the first follow on those before
unfoldable pub last_fields : (k : ℕ) (s : List ℕ) (bits at : ℕ) → Outcome (ℕ × ℕ)
last_fields zero s bits at = value (bits, at)
last_fields (suc k) s bits at = read_fields s at >>= (λ (f : Fields). last_fields k s f.bits f.next)

-- nothing comes behind the area of Bitpacked and Linear; in Blockwise the footer does, which has to end with the last block's fields
unfoldable pub ending : Codec → (count rows : ℕ) (s : List ℕ) → Outcome Ending
ending Bitpacked count rows s = value (record { bits = width count; resumes = length s; later = None })
ending (Linear l w) count rows s = value (record { bits = w; resumes = length s; later = None })
ending Blockwise count rows s = do
  let end = length s - 4
  let start = end - bytes_num (drop end s)
  f ← last_fields (block_count rows) (take end s) 0 start
  value (record { bits = f.0; resumes = start; later = unclaimed f.1 end })

-- ---- the sheets

-- the first offending byte of a column that was opened
abbrev pub offending : (s : List ℕ) → Column → Option ℕ → Ending → Option ℕ
offending s col p e =
    let end = col.start + col.size in
    lower p (lower (overfull s (end - 1) (e.bits * col.rows % 8)) (lower (unclaimed end e.resumes) e.later))

-- it is refused
abbrev pub clean : Option ℕ → Outcome (Unit {0})
clean None = value tt
clean (Some offset) = refusal 17 (offset ∷ [])

-- what sheet 2 asks of an opened column
unfoldable pub strict : (s : List ℕ) → Column → Option ℕ → Outcome (Unit {0})
strict s col p = ending col.codec col.count col.rows s >>= (λ (e : Ending). clean (offending s col p e))

-- what an opening of some bytes found, under a sheet; 18 comes before all of it
unfoldable pub under_sheet : (sheet : ℕ) (s : List ℕ) → Outcome Loaded → Outcome Loaded
under_sheet zero s o = refusal 18 []
under_sheet (suc zero) s o = o
under_sheet (suc (suc zero)) s o = o >>= (λ (l : Loaded). strict s l.column l.longer >> value l)
under_sheet (suc (suc (suc sheet))) s o = refusal 18 []

-- opening under a sheet
abbrev pub opened_under : (sheet : ℕ) (s : List ℕ) (room : ℕ) → Outcome Loaded
opened_under sheet s room = under_sheet sheet s (opened s room)

-- ---- the parts of a column

-- the fields of a table's blocks in a footer, three a block
unfoldable pub entries_of : (table : List Block) → List (List ℕ)
entries_of [] = []
entries_of (b ∷ bs) = spell b.line.slope ∷ spell b.line.intercept ∷ (b.bits ∷ []) ∷ entries_of bs

-- the parts behind the head: Linear's line and width before the area; Blockwise's footer behind it, with its length in four bytes
abbrev pub body_parts : Codec → (table : List Block) (area four : List ℕ) → List (List ℕ)
body_parts Bitpacked table area four = area ∷ []
body_parts (Linear l w) table area four = spell l.slope ∷ spell l.intercept ∷ (w ∷ []) ∷ area ∷ []
body_parts Blockwise table area four = area ∷ (entries_of table ++ (four ∷ []))

-- all parts of an opened column in their order, each number in its shortest spelling
abbrev pub part_bytes : (s : List ℕ) → Loaded → List (List ℕ)
part_bytes s o =
    let col = o.column in
    (code_of col.codec ∷ [])
    ∷ spell col.minimum ∷ spell col.gcd ∷ spell col.count ∷ spell col.rows
    ∷ body_parts col.codec o.table (take col.size (drop col.start s)) (drop (length s - 4) s)
