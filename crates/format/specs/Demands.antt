-- The request's demands 2 and 3, as statements about the definitions. (Demand 1 is the contracts'.)
-- Assumes nothing.
use Rattle.std.specs.Prelude.{ℕ, zero, suc, ◌+◌, ◌*◌, ◌/◌, ◌^◌, ◌≤◌, ◌<◌, ◌≡◌, ◌⊎◌, List, [], ◌∷◌, length, take, drop, get_or}
use Rattle.format.specs.declared.Block.{Block}
use Rattle.format.specs.declared.Kind.{Kind}
use Rattle.format.specs.declared.Window.{Window}
use Rattle.format.specs.Outcome.{Outcome, Outcome.value, Outcome.refusal, stored}
use Rattle.format.specs.Word.{AllBelow}
use Rattle.format.specs.Packing.{bit_at}
use Rattle.format.specs.Bodies.{block_count}
use Rattle.format.specs.Writing.{written}
use Rattle.format.specs.Opening.{Loaded, opened}
use Rattle.format.specs.Reading.{row_at, place_of, block_at}
use Rattle.format.specs.Windows.{in_window}
use Rattle.format.specs.Lookup.{looked_up, within}
use Rattle.format.specs.Typed.{stored_as, read_as, reading_of, meant, lies, between, signed_of, flag_of, float_of}

-- a lent table after an opening that filled it
abbrev pub filled_by : Loaded → (table : List Block) → List Block
filled_by o table = stored (value o.table) table

-- a row's answer from some bytes that were opened with a lent table
abbrev pub answered : Loaded → (table : List Block) (s : List ℕ) (r : ℕ) → Outcome ℕ
answered o table s r = row_at o.column (filled_by o table) s r

-- a window lies in an opened column
abbrev pub LiesIn : Window → Loaded → Type 0
LiesIn w o = w.first + w.rows ≤ o.column.rows

-- ---- demand 2: what was written opens, and gives back every row and every row in a value range

-- how a list of values reads, row by row
abbrev pub reads_as : (vs : List ℕ) (r : ℕ) → Outcome ℕ
reads_as vs r = value (get_or vs r 0)

-- the window of an opened column gives back a list: as many rows, each row, and every lookup
pub record GivesBack (vs bytes : List ℕ) (table : List Block) (o : Loaded) : Type 0 where
  pub count : o.column.window.rows ≡ length vs
  pub rows : (r : ℕ) → r < length vs → answered o table bytes r ≡ reads_as vs r
  pub found : (low high first end room : ℕ)
      → looked_up (answered o table bytes) o.column.window.rows (within low high) first end room
      ≡ looked_up (reads_as vs) (length vs) (within low high) first end room

-- the part of a list that a window shows
abbrev pub shown : Window → List ℕ → List ℕ
shown w vs = take w.rows (drop w.first vs)

-- what was written opens, with any table that has room for its blocks, and gives back the list; any window in it gives back its part of the list
abbrev pub Returns : Type 0
Returns =
    (vs cs bytes : List ℕ) (table : List Block) (room : ℕ) → AllBelow (2 ^ 64) vs → written vs cs room ≡ value bytes
    → block_count (length vs) ≤ length table
    → (o : Loaded) × (opened bytes (length table) ≡ value o) × GivesBack vs bytes table o
    × ((w : Window) → LiesIn w o → GivesBack (shown w vs) bytes table (in_window o w))

-- a codec applies to some values: Linear from 512 on
abbrev pub Applies : (codec : ℕ) → List ℕ → Type 0
Applies zero vs = Unit {0}
Applies (suc zero) vs = 512 ≤ length vs
Applies (suc (suc c)) vs = Unit {0}

-- nothing is refused needlessly: fewer than 2^32 values have a column by known codecs of which one applies, written wherever there is room for it
abbrev pub Accepts : Type 0
Accepts =
    (vs cs : List ℕ) (j : ℕ) → length vs < 2 ^ 32 → AllBelow 3 cs → j < length cs → Applies (get_or cs j 0) vs
    → (bytes : List ℕ) × ((room : ℕ) → length bytes ≤ room → written vs cs room ≡ value bytes)

-- demand 2
abbrev pub Demand2 : Type 0
Demand2 = Returns × Accepts

-- ---- demand 3: where rows' bits lie, and what a row's answer depends on

-- the bits of a row, counted from the first bit of the column's bytes
pub record Span : Type 0 where
  pub first : ℕ
  pub bits : ℕ

-- by the place of its number in the area
abbrev pub span_of : Loaded → (r : ℕ) → Span
span_of o r =
    let p = place_of o.column (block_at o.table (r / 512)) r in
    record { first = 8 * (o.column.start + p.start) + p.row * p.bits; bits = p.bits }

-- bit k is a row's own
abbrev pub Owns : Loaded → (r k : ℕ) → Type 0
Owns o r k = ((span_of o r).first ≤ k) × (k < (span_of o r).first + (span_of o r).bits)

-- every bit of a row lies in the packed area, which lies in the bytes
abbrev pub Inside : Type 0
Inside =
    (s : List ℕ) (room : ℕ) (o : Loaded) → opened s room ≡ value o → (r k : ℕ) → r < o.column.rows → Owns o r k
    → (8 * o.column.start ≤ k) × (k < 8 * (o.column.start + o.column.size)) × (o.column.start + o.column.size ≤ length s)

-- no bit is two rows' own
abbrev pub Apart : Type 0
Apart =
    (s : List ℕ) (room : ℕ) (o : Loaded) → opened s room ≡ value o → (q r k : ℕ) → q < o.column.rows → r < o.column.rows
    → Owns o q k → Owns o r k → q ≡ r

-- two byte strings of equal length that differ only inside the first one's packed area
pub record Alike (s t : List ℕ) (o : Loaded) : Type 0 where
  pub long : length s ≡ length t
  pub before : (i : ℕ) → i < o.column.start → get_or s i 0 ≡ get_or t i 0
  pub behind : (i : ℕ) → o.column.start + o.column.size ≤ i → get_or s i 0 ≡ get_or t i 0

-- a row's own bits agree in two byte strings
abbrev pub SameBits : Loaded → (s t : List ℕ) (r : ℕ) → Type 0
SameBits o s t r = (k : ℕ) → Owns o r k → bit_at s k ≡ bit_at t k

-- two answers for a row differ, unless both are 14
abbrev pub Differ : (r : ℕ) (a b : Outcome ℕ) → Type 0
Differ r a b = (a ≡ b → ⊥) ⊎ ((a ≡ refusal 14 (r ∷ [])) × (b ≡ refusal 14 (r ∷ [])))

-- they open alike; of any window, a row whose bits agree answers the same; one whose bits differ answers otherwise, unless both answers are 14
pub record RowsTell (s t : List ℕ) (table other : List Block) (o p : Loaded) : Type 0 where
  pub same : o ≡ p
  pub agree : (w : Window) → LiesIn w o → (r : ℕ) → r < w.rows → SameBits o s t (w.first + r)
      → answered (in_window o w) table s r ≡ answered (in_window p w) other t r
  pub differ : (w : Window) → LiesIn w o → (r : ℕ) → r < w.rows → (SameBits o s t (w.first + r) → ⊥)
      → Differ r (answered (in_window o w) table s r) (answered (in_window p w) other t r)

-- two such byte strings, each opened with a table of its own, are told apart row by row
abbrev pub Tell : Type 0
Tell =
    (s t : List ℕ) (table other : List Block) (o p : Loaded) → opened s (length table) ≡ value o → opened t (length other) ≡ value p
    → Alike s t o → RowsTell s t table other o p

-- demand 3
abbrev pub Demand3 : Type 0
Demand3 = Inside × Apart × Tell

-- ---- both, of columns of other kinds

-- the window of an opened column gives back a list of values of a kind: as many rows, each row's value, and every lookup by values
pub record GivesBackAs (kind : Kind) (xs bytes : List ℕ) (table : List Block) (o : Loaded) : Type 0 where
  pub count : o.column.window.rows ≡ length xs
  pub rows : (r : ℕ) → r < length xs → read_as (reading_of kind).value (answered o table bytes r) ≡ value (meant kind (get_or xs r 0))
  pub found : (low high : (reading_of kind).Value) (first end room : ℕ)
      → looked_up (answered o table bytes) o.column.window.rows (between (reading_of kind) low high) first end room
      ≡ looked_up (reads_as xs) (length xs) (λ x. lies (reading_of kind) low high (meant kind x)) first end room

-- what was written of such a list opens, and gives it back, and any window in it its part
abbrev pub ReturnsAs : Kind → Type 0
ReturnsAs kind =
    (xs cs bytes : List ℕ) (table : List Block) (room : ℕ) → AllBelow (2 ^ 64) xs → written (stored_as kind xs) cs room ≡ value bytes
    → block_count (length xs) ≤ length table
    → (o : Loaded) × (opened bytes (length table) ≡ value o) × GivesBackAs kind xs bytes table o
    × ((w : Window) → LiesIn w o → GivesBackAs kind (shown w xs) bytes table (in_window o w))

-- what two answers for a row read as differs, unless both are 14
abbrev pub DifferAs : {A : Type 0} → (read : ℕ → A) (r : ℕ) (a b : Outcome ℕ) → Type 0
DifferAs read r a b = (read_as read a ≡ read_as read b → ⊥) ⊎ ((a ≡ refusal 14 (r ∷ [])) × (b ≡ refusal 14 (r ∷ [])))

-- two answers are both values above 0
pub record BothTrue (a b : Outcome ℕ) : Type 0 where
  pub one : ℕ
  pub other : ℕ
  pub is_one : a ≡ value one
  pub is_other : b ≡ value other
  pub above : 0 < one
  pub above_too : 0 < other

-- answers that differ, unless both are 14, differ as signed numbers and as floats too, and as bools unless both stored numbers are above 0
pub record TellAs (r : ℕ) (a b : Outcome ℕ) : Type 0 where
  pub signed : DifferAs signed_of r a b
  pub float : DifferAs float_of r a b
  pub flag : DifferAs flag_of r a b ⊎ BothTrue a b

-- a row of a window whose bits differ answers so
abbrev pub TellTyped : Type 0
TellTyped =
    (s t : List ℕ) (table other : List Block) (o p : Loaded) → opened s (length table) ≡ value o → opened t (length other) ≡ value p → Alike s t o
    → (w : Window) → LiesIn w o → (r : ℕ) → r < w.rows → (SameBits o s t (w.first + r) → ⊥)
    → TellAs r (answered (in_window o w) table s r) (answered (in_window p w) other t r)
