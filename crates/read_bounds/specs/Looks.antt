-- What looking at a chunk finds, without its values.
-- Assumes nothing.
use Rattle.format.specs.declared.Refusal.{Refusal}
use Rattle.std.specs.Prelude.{ℕ, ◌+◌, ◌-◌, ◌*◌, ◌^◌, ◌≤◌, ◌<◌, ◌≡◌, ◌⊎◌, List, length, Result}
use Rattle.format.specs.declared.Block.{Block}
use Rattle.format.specs.declared.Codec.{Codec}
use Rattle.format.specs.declared.Codec.TheVariants.{Bitpacked, Blockwise}
use Rattle.format.specs.declared.Column.{Column}
use Rattle.format.specs.declared.Line.{Line}
use Rattle.format.specs.Line.{line_at}
use Rattle.format.specs.Outcome.{Outcome, Outcome.value}
use Rattle.format.specs.Reading.{value_at}
use Rattle.format.specs.Word.{mod_add, mod_sub}
use Rattle.read_row.specs.Chunks.{DecodedAs}

-- decoding would find o, in some list of n entries
pub record LookedAs (o : Outcome (List ℕ)) (n : ℕ) (r : Result (Unit {0}) Refusal) : Type 0 where
  pub values : List ℕ
  pub long : length values ≡ n
  pub found : DecodedAs o r values

-- an outcome that is no refusal
pub record Valued (o : Outcome ℕ) : Type 0 where
  pub number : ℕ
  pub is : o ≡ value number

-- n rows from r on have values, whatever the bytes
pub record Sure (col : Column) (b : Block) (r n : ℕ) : Type 0 where
  pub each : (s : List ℕ) (x : ℕ) → r ≤ x → x < r + n → Valued (value_at col b s x)

-- n rows from r on have values in some bytes
pub record Stands (col : Column) (b : Block) (s : List ℕ) (r n : ℕ) : Type 0 where
  pub each : (x : ℕ) → r ≤ x → x < r + n → Valued (value_at col b s x)

-- a codec by which a row has a value wherever its multiple is up to the count
abbrev pub Counted : Codec → Type 0
Counted codec = (codec ≡ Bitpacked) ⊎ (codec ≡ Blockwise)

-- the column whose values are another's multiples
abbrev pub multiples_of : Column → Column
multiples_of col = record { minimum = 0; gcd = 1; count = col.count; rows = col.rows; start = col.start; size = col.size; window = col.window; codec = col.codec }

-- a line of a slope rises, or falls, by a product below 2^63 up to a place
abbrev pub Gentle : (slope to : ℕ) → Type 0
Gentle slope to = (to * slope < 2 ^ 63) ⊎ ((slope ≤ 2 ^ 64) × (to * (2 ^ 64 - slope) < 2 ^ 63))

-- a line with any number of so many bits lies from one place to another no more than a span above low
pub record Near (l : Line) (bits from to low span : ℕ) : Type 0 where
  pub near : (x number : ℕ) → from ≤ x → x ≤ to → number < 2 ^ bits → mod_sub (mod_add (line_at l x) number) low ≤ span
