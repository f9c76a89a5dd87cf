-- Columns of signed numbers, dates, bools and floats: how a value is stored as a number below 2^64, what a stored number reads as, and looking values up.
-- Assumes nothing.
use Rattle.std.specs.Prelude.{ℕ, ◌+◌, ◌-◌, ◌^◌, ◌≤◌, ◌<◌, ◌≡◌, Bool, not, ◌&&◌, ◌||◌, List, map, T, ltb, leb, ℤ, pos, ◌+ℤ◌, ◌-ℤ◌, nat_abs}
use Rattle.std.specs.Int.Signed.{le_z}
use Rattle.format.specs.declared.Kind.{Kind}
use Rattle.format.specs.declared.Kind.TheVariants.{U64, I64, Date, Bool as Flag, F64}
use Rattle.format.specs.declared.Range.{Range}
use Rattle.format.specs.Outcome.{Outcome, Outcome.value, ◌>>=◌, pick}
use Rattle.format.specs.Lookup.{within}

-- ---- one value

-- a signed number v is stored as v + 2^63
unfoldable pub stored_signed : ℤ → ℕ
stored_signed v = nat_abs (v +ℤ pos (2 ^ 63))

-- so a stored number reads as itself less 2^63
unfoldable pub signed_of : ℕ → ℤ
signed_of u = pos u -ℤ pos (2 ^ 63)

-- a bool is stored as 0 or 1
abbrev pub stored_flag : Bool → ℕ
stored_flag b = pick b 1 0

-- any stored number above 0 reads as true
abbrev pub flag_of : ℕ → Bool
flag_of u = ltb 0 u

-- 64 bits, each inverted
abbrev pub inverted : ℕ → ℕ
inverted bits = 2 ^ 64 - 1 - bits

-- a float is stored by its bits: all inverted if the sign bit is set, else with the sign bit set
unfoldable pub stored_float : (bits : ℕ) → ℕ
stored_float bits = pick (ltb bits (2 ^ 63)) (bits + 2 ^ 63) (inverted bits)

-- and a stored number reads as the bits that are so stored
unfoldable pub float_of : ℕ → ℕ
float_of u = pick (ltb u (2 ^ 63)) (inverted u) (u - 2 ^ 63)

-- ---- a list of values of a kind, lent as words

-- the signed number of 64 bits, in two's complement
unfoldable pub signed_bits : ℕ → ℤ
signed_bits x = pick (ltb x (2 ^ 63)) (pos x) (pos x -ℤ pos (2 ^ 64))

-- the stored number of a word: a date is its signed nanoseconds, a bool is false for 0 alone
unfoldable pub stored_in : Kind → (x : ℕ) → ℕ
stored_in U64 x = x
stored_in I64 x = stored_signed (signed_bits x)
stored_in Date x = stored_signed (signed_bits x)
stored_in Flag x = stored_flag (ltb 0 x)
stored_in F64 x = stored_float x

-- the stored numbers of a list
abbrev pub stored_as : Kind → (xs : List ℕ) → List ℕ
stored_as kind xs = map (stored_in kind) xs

-- ---- reading

-- what a row's answer reads as; a refusal stays
abbrev pub read_as : {A : Type 0} → (read : ℕ → A) → Outcome ℕ → Outcome A
read_as read o = o >>= (λ (u : ℕ). value (read u))

-- values read from stored numbers, and which are at most which
pub record Reading : Type 1 where
  pub Value : Type 0
  pub value : (stored : ℕ) → Value
  pub at_most : Value → Value → Bool

-- numbers as they are stored
abbrev pub numbers : Reading
numbers = record { Value = ℕ; value = λ u. u; at_most = leb }

-- signed numbers, in their order
abbrev pub signeds : Reading
signeds = record { Value = ℤ; value = signed_of; at_most = le_z }

-- bools, false before true
abbrev pub flags : Reading
flags = record { Value = Bool; value = flag_of; at_most = λ a b. not a || b }

-- floats by their bits, in the order of the numbers that they are stored as
abbrev pub floats : Reading
floats = record { Value = ℕ; value = float_of; at_most = λ a b. leb (stored_float a) (stored_float b) }

-- how the stored numbers of a kind read
abbrev pub reading_of : Kind → Reading
reading_of U64 = numbers
reading_of I64 = signeds
reading_of Date = signeds
reading_of Flag = flags
reading_of F64 = floats

-- the value that a lent word of a kind is
abbrev pub meant : (kind : Kind) (x : ℕ) → (reading_of kind).Value
meant U64 x = x
meant I64 x = signed_bits x
meant Date x = signed_bits x
meant Flag x = ltb 0 x
meant F64 x = x

-- ---- looking up

-- whether a value lies from low to high
abbrev pub lies : (R : Reading) → (low high v : R.Value) → Bool
lies R low high v = R.at_most low v && R.at_most v high

-- the test of a lookup by the value read
abbrev pub between : (R : Reading) → (low high : R.Value) → ℕ → Bool
between R low high u = lies R low high (R.value u)

-- the stored numbers of the signed numbers from low to high
abbrev pub signed_range : (low high : ℤ) → Range
signed_range low high = record { low = stored_signed low; high = stored_signed high }

-- of the floats from low to high, by their bits
abbrev pub float_range : (low high : ℕ) → Range
float_range low high = record { low = stored_float low; high = stored_float high }

-- of the bools from low to high: 0 alone reads as false, every other number as true
abbrev pub flag_range : (low high : Bool) → Range
flag_range low high = record { low = stored_flag low; high = pick high (2 ^ 64 - 1) 0 }

-- a reading never reverses order
pub record Keeps (R : Reading) : Type 0 where
  pub keeps : (u w : ℕ) → u ≤ w → w < 2 ^ 64 → T (R.at_most (R.value u) (R.value w))
  pub chains : (x y z : R.Value) → T (R.at_most x y) → T (R.at_most y z) → T (R.at_most x z)

-- a range of stored numbers holds exactly those whose value lies from low to high
abbrev pub Covers : (R : Reading) → (low high : R.Value) → Range → Type 0
Covers R low high range = (u : ℕ) → u < 2 ^ 64 → between R low high u ≡ within range.low range.high u
