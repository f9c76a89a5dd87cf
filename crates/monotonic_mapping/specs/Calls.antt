-- What each call promises: its answer, or the lent list before and after.
-- Assumes nothing.
use Rattle.format.specs.declared.Refusal.{Refusal}
use Rattle.format.specs.Refusals.{answered_by}
use Rattle.std.specs.Prelude.{ℕ, ◌≡◌, Bool, List, ℤ, Result}
use Rattle.format.specs.declared.Kind.{Kind}
use Rattle.format.specs.declared.Range.{Range}
use Rattle.format.specs.Typed.{signed_of, flag_of, float_of, stored_in, read_as, signed_range, flag_range, float_range}
use Rattle.monotonic_mapping.specs.Words.{words_as}

-- `stored_of`
abbrev pub StoredOfAs : Kind → (x r : ℕ) → Type 0
StoredOfAs kind x r = r ≡ stored_in kind x

-- `signed_of`
abbrev pub SignedOfAs : (stored : ℕ) (r : ℤ) → Type 0
SignedOfAs stored r = r ≡ signed_of stored

-- `flag_of`
abbrev pub FlagOfAs : (stored : ℕ) (r : Bool) → Type 0
FlagOfAs stored r = r ≡ flag_of stored

-- `float_of`
abbrev pub FloatOfAs : (stored r : ℕ) → Type 0
FloatOfAs stored r = r ≡ float_of stored

-- `words_as`
abbrev pub WordsOfAs : Kind → (list list' : List ℕ) → Type 0
WordsOfAs kind list list' = list' ≡ words_as kind list

-- `signed`
abbrev pub SignedReadAs : Result ℕ Refusal → Result ℤ Refusal → Type 0
SignedReadAs read r = answered_by r ≡ read_as signed_of (answered_by read)

-- `flag`
abbrev pub FlagReadAs : Result ℕ Refusal → Result Bool Refusal → Type 0
FlagReadAs read r = answered_by r ≡ read_as flag_of (answered_by read)

-- `float_bits`
abbrev pub FloatReadAs : Result ℕ Refusal → Result ℕ Refusal → Type 0
FloatReadAs read r = answered_by r ≡ read_as float_of (answered_by read)

-- `signed_range`
abbrev pub SignedRangeAs : (low high : ℤ) → Range → Type 0
SignedRangeAs low high r = r ≡ signed_range low high

-- `flag_range`
abbrev pub FlagRangeAs : (low high : Bool) → Range → Type 0
FlagRangeAs low high r = r ≡ flag_range low high

-- `float_range`
abbrev pub FloatRangeAs : (low high : ℕ) → Range → Type 0
FloatRangeAs low high r = r ≡ float_range low high
