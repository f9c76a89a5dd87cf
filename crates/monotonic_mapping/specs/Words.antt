-- Stored numbers as the words of the values that they read as: as such values are lent in a list.
-- Assumes nothing.
use Rattle.std.specs.Prelude.{ℕ, ◌^◌, List, map}
use Rattle.format.specs.declared.Kind.{Kind}
use Rattle.format.specs.declared.Kind.TheVariants.{U64, I64, Date, Bool as Flag, F64}
use Rattle.format.specs.Typed.{stored_flag, flag_of, float_of}
use Rattle.format.specs.Word.{mod_add}

-- the word of one: 64 bits in two's complement of a signed number or a date, 0 or 1 of a bool, the bits of a float
unfoldable pub word_of : Kind → (u : ℕ) → ℕ
word_of U64 u = u
word_of I64 u = mod_add u (2 ^ 63)
word_of Date u = mod_add u (2 ^ 63)
word_of Flag u = stored_flag (flag_of u)
word_of F64 u = float_of u

-- the words of a list
abbrev pub words_as : Kind → (us : List ℕ) → List ℕ
words_as kind us = map (word_of kind) us
