-- What the code does to a word to store it: the bits that it inverts, by the kind, and the greatest number that is stored; of all kinds but plain numbers.
-- Assumes nothing.
use Rattle.std.specs.Prelude.{ℕ, ◌-◌, ◌^◌, Bool, true, false}
use Rattle.std.specs.Int.Bits.{bit_xor}
use Rattle.format.specs.declared.Kind.{Kind}
use Rattle.format.specs.declared.Kind.TheVariants.{U64, I64, Date, Bool as Flag, F64}
use Rattle.format.specs.Outcome.{pick}
use Rattle.format.specs.Typed.{stored_float}

-- whether values are numbers as they stand
abbrev pub is_number : Kind → Bool
is_number U64 = true
is_number I64 = false
is_number Date = false
is_number Flag = false
is_number F64 = false

-- whether they are bools
abbrev pub is_flag : Kind → Bool
is_flag U64 = false
is_flag I64 = false
is_flag Date = false
is_flag Flag = true
is_flag F64 = false

-- whether they are floats
abbrev pub is_float : Kind → Bool
is_float U64 = false
is_float I64 = false
is_float Date = false
is_float Flag = false
is_float F64 = true

-- the bits that are inverted of a word that is no float: the sign bit, but nothing of a bool
abbrev pub flip : Kind → ℕ
flip kind = pick (is_flag kind) 0 (2 ^ 63)

-- a word with its bits inverted
abbrev pub flipped : Kind → (x : ℕ) → ℕ
flipped kind x = pick (is_float kind) (stored_float x) (bit_xor x (flip kind))

-- the greatest number that is stored: 1 of a bool
abbrev pub most_stored : Kind → ℕ
most_stored kind = pick (is_flag kind) 1 (2 ^ 64 - 1)
