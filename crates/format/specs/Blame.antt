-- What is asked of the parts and of the rows that a byte names, as statements about the definitions.
-- Assumes nothing.
use Rattle.std.specs.Prelude.{ℕ, ◌+◌, ◌*◌, ◌≤◌, ◌<◌, ◌≡◌, Bool, ◌&&◌, List, [], ◌∷◌, ltb, leb, length, get_or, Option, Some, None}
use Rattle.format.specs.declared.Block.{Block}
use Rattle.format.specs.declared.PartName.TheVariants.{Area, Behind}
use Rattle.format.specs.declared.Part.{Part}
use Rattle.format.specs.Outcome.{Outcome.value, pick}
use Rattle.format.specs.Opening.{Loaded, opened}
use Rattle.format.specs.Parts.{part_end, parts_of, part_at, behind_end, owners_at}
use Rattle.format.specs.Demands.{Owns, SameBits, Differ, answered}

-- ---- the parts are all bytes, each once

-- parts follow one another from an offset to an end
abbrev pub Consecutive : (at : ℕ) → List Part → (end : ℕ) → Type 0
Consecutive at [] end = at ≡ end
Consecutive at (p ∷ ps) end = (p.first ≡ at) × Consecutive (part_end p) ps end

-- whether a part holds the byte at an offset
abbrev pub holds : Part → (i : ℕ) → Bool
holds p i = leb p.first i && ltb i (part_end p)

-- those of some parts that do
unfoldable pub holding : List Part → (i : ℕ) → List Part
holding [] i = []
holding (p ∷ ps) i = pick (holds p i) (p ∷ holding ps i) (holding ps i)

-- the parts of a column that opens: they follow one another from its first byte to its last; each byte is held by just one, which is the one that is found for
-- it; the area, and the bytes behind it, are one part each
pub record Parted (s : List ℕ) (o : Loaded) : Type 0 where
  pub cover : Consecutive 0 (parts_of s o.column) (length s)
  pub each : (i : ℕ) → i < length s → (p : Part) × (part_at s o.column i ≡ Some p) × (holding (parts_of s o.column) i ≡ p ∷ [])
  pub area : (i : ℕ) → o.column.start ≤ i → i < o.column.start + o.column.size
      → part_at s o.column i ≡ Some (record { name = Area; first = o.column.start; bytes = o.column.size; value = 0 })
  pub behind : (i n : ℕ) → o.column.start + o.column.size + n ≡ behind_end o.column.codec s → o.column.start + o.column.size ≤ i → i < behind_end o.column.codec s
      → part_at s o.column i ≡ Some (record { name = Behind; first = o.column.start + o.column.size; bytes = n; value = 0 })

-- every column that opens is so
abbrev pub AllParted : Type 0
AllParted = (s : List ℕ) (room : ℕ) (o : Loaded) → opened s room ≡ value o → Parted s o

-- ---- the rows of a byte

-- a row owns a bit of the byte at an offset
abbrev pub OwnsIn : Loaded → (r i : ℕ) → Type 0
OwnsIn o r i = (k : ℕ) × (8 * i ≤ k) × (k < 8 * i + 8) × Owns o r k

-- a row is named
abbrev pub Named : Option (ℕ × ℕ) → (r : ℕ) → Type 0
Named (Some (first, last)) r = (first ≤ r) × (r ≤ last)
Named None r = ⊥

-- the rows named for a byte are the column's rows that own a bit of it; and each byte of the area has one
pub record Owned (o : Loaded) (i : ℕ) : Type 0 where
  pub named : (r : ℕ) → Named (owners_at o.column o.table i) r → (r < o.column.rows) × OwnsIn o r i
  pub all : (r : ℕ) → r < o.column.rows → OwnsIn o r i → Named (owners_at o.column o.table i) r
  pub some : o.column.start ≤ i → i < o.column.start + o.column.size → (r : ℕ) × Named (owners_at o.column o.table i) r

-- in every column that opens, for every byte
abbrev pub AllOwned : Type 0
AllOwned = (s : List ℕ) (room : ℕ) (o : Loaded) → opened s room ≡ value o → (i : ℕ) → Owned o i

-- ---- a differing byte

-- two byte strings of equal length with the same fields: they differ in the packed area and in the bytes behind it at most
pub record SameFields (s t : List ℕ) (o : Loaded) : Type 0 where
  pub long : length s ≡ length t
  pub before : (i : ℕ) → i < o.column.start → get_or s i 0 ≡ get_or t i 0
  pub footer : (i : ℕ) → behind_end o.column.codec s ≤ i → get_or s i 0 ≡ get_or t i 0

-- a row that no differing byte names
abbrev pub Untouched : Loaded → (s t : List ℕ) (r : ℕ) → Type 0
Untouched o s t r = (i : ℕ) → Named (owners_at o.column o.table i) r → get_or s i 0 ≡ get_or t i 0

-- they open alike; a row that no differing byte names answers the same; so does one whose own bits agree; one whose bits differ answers otherwise, unless both answers are 14
pub record Blames (s t : List ℕ) (table other : List Block) (o p : Loaded) : Type 0 where
  pub same : o ≡ p
  pub untouched : (r : ℕ) → r < o.column.rows → Untouched o s t r → answered o table s r ≡ answered p other t r
  pub agree : (r : ℕ) → r < o.column.rows → SameBits o s t r → answered o table s r ≡ answered p other t r
  pub differ : (r : ℕ) → r < o.column.rows → (SameBits o s t r → ⊥) → Differ r (answered o table s r) (answered p other t r)

-- two such byte strings, each opened with a table of its own
abbrev pub Blame : Type 0
Blame =
    (s t : List ℕ) (table other : List Block) (o p : Loaded) → opened s (length table) ≡ value o → opened t (length other) ≡ value p
    → SameFields s t o → Blames s t table other o p

-- bytes that agree but for one
abbrev pub OnlyAt : (s t : List ℕ) (i : ℕ) → Type 0
OnlyAt s t i = (j : ℕ) → (j ≡ i → ⊥) → get_or s j 0 ≡ get_or t j 0

-- where one byte of the area differs, a row whose bits differ is one that it names
abbrev pub BlameOne : Type 0
BlameOne =
    (s t : List ℕ) (room : ℕ) (o : Loaded) → opened s room ≡ value o → length s ≡ length t → (i : ℕ) → OnlyAt s t i
    → (r : ℕ) → r < o.column.rows → (SameBits o s t r → ⊥) → Named (owners_at o.column o.table i) r

-- where bytes behind the area differ and no others, every row answers the same
abbrev pub BlameNone : Type 0
BlameNone =
    (s t : List ℕ) (table other : List Block) (o p : Loaded) → opened s (length table) ≡ value o → opened t (length other) ≡ value p
    → SameFields s t o → ((i : ℕ) → i < o.column.start + o.column.size → get_or s i 0 ≡ get_or t i 0)
    → (r : ℕ) → r < o.column.rows → answered o table s r ≡ answered p other t r
