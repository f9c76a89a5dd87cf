-- Cases of the mappings and of typed lookups, computed.
--     signed_cases, float_cases, flag_cases, number_cases     words, the numbers that they are stored as, what those read as, and the values that the words are
--     signed_lookups, float_lookups, flag_lookups             lookups by values: a stored 2 is found as true
--     refused_first                                           a refused row decides before the range
--     range_cases                                             the ranges of stored numbers
--     signed_column                                           -10, 10, 0 as a column
-- Assumes nothing.
use mathlib.Core.Path.{◌≡◌, refl}
use mathlib.Core.Bool.{Bool, true, false}
use mathlib.Core.List.{List, [], ◌∷◌, map}
use Prim.Native.Nat.{ℕ}
use lib.Dec.{eqb}
use lib.IntN.{ℤ, pos, negsuc}
use Rattle.format.specs.declared.Kind.TheVariants.{U64, I64, Date, Bool as Flag, F64}
use Rattle.format.specs.Outcome.{Outcome, Outcome.value, Outcome.refusal, pick}
use Rattle.format.specs.Varint.{spell, spell_in}
use Rattle.format.specs.Packing.{width, bit_length, bits_in, packed, bytes_of, rows_bits, bits_of, num_of}
use Rattle.format.specs.Stats.{stats_of, reduce, fold_from, gcd, euclid, spell_head}
use Rattle.format.specs.Bodies.{body, bitpacked}
use Rattle.format.specs.Writing.{written, known, chosen, size_of}
use Rattle.format.specs.Lookup.{all_read, rows_passing, looked_up}
use Rattle.format.specs.Typed.{stored_in, stored_as, stored_signed, signed_bits, signed_of, flag_of, stored_float, float_of, numbers, signeds, flags, floats, reading_of, meant, between, signed_range, float_range, flag_range}
use Rattle.format.specs.Demands.{reads_as}

-- the least signed number and the next, the neighbours of 0 with 0 between them, the last but one and the greatest
abbrev words : List ℕ
words = 0x8000000000000000 ∷ 0x8000000000000001 ∷ 0xFFFFFFFFFFFFFFFF ∷ 0 ∷ 1 ∷ 0x7FFFFFFFFFFFFFFE ∷ 0x7FFFFFFFFFFFFFFF ∷ []

abbrev climbing : List ℕ
climbing = 0 ∷ 1 ∷ 0x7FFFFFFFFFFFFFFF ∷ 0x8000000000000000 ∷ 0x8000000000000001 ∷ 0xFFFFFFFFFFFFFFFE ∷ 0xFFFFFFFFFFFFFFFF ∷ []

abbrev whole : List ℤ
whole = negsuc 0x7FFFFFFFFFFFFFFF ∷ negsuc 0x7FFFFFFFFFFFFFFE ∷ negsuc 0 ∷ pos 0 ∷ pos 1 ∷ pos 0x7FFFFFFFFFFFFFFE ∷ pos 0x7FFFFFFFFFFFFFFF ∷ []

pub signed_cases : (stored_as I64 words ≡ climbing) × (stored_as Date words ≡ climbing) × (map stored_signed whole ≡ climbing) × (map signed_of climbing ≡ whole)
    × (map (reading_of I64).value climbing ≡ whole) × (map (reading_of Date).value climbing ≡ whole)
    × (map (meant I64) words ≡ whole) × (map (meant Date) words ≡ whole)
unfolding stored_in stored_signed signed_bits signed_of
signed_cases = (refl, refl, refl, refl, refl, refl, refl, refl)

-- a lookup of signed numbers goes by their order, ends included; from above to below it finds none
abbrev signeds_from : (low high : ℤ) → Outcome (List ℕ)
signeds_from low high = looked_up (reads_as climbing) 7 (between signeds low high) 0 7 7

pub signed_lookups : (signeds_from (negsuc 0x7FFFFFFFFFFFFFFF) (negsuc 0) ≡ value (0 ∷ 1 ∷ 2 ∷ []))
    × (signeds_from (negsuc 0) (pos 1) ≡ value (2 ∷ 3 ∷ 4 ∷ []))
    × (signeds_from (pos 0x7FFFFFFFFFFFFFFF) (pos 0x7FFFFFFFFFFFFFFF) ≡ value (6 ∷ []))
    × (signeds_from (pos 1) (negsuc 0) ≡ value [])
unfolding signed_of looked_up all_read rows_passing
signed_lookups = (refl, refl, refl, refl)

-- quiet NaNs with the sign bit, the last of them and the first, a signalling one, -infinity, -1.0, the greatest float below 0, -0.0, and the same without the sign
-- bit the other way round: in the order of the numbers that they are stored as
abbrev patterns : List ℕ
patterns =
    0xFFFFFFFFFFFFFFFF ∷ 0xFFF8000000000000 ∷ 0xFFF0000000000001 ∷ 0xFFF0000000000000 ∷ 0xBFF0000000000000 ∷ 0x8000000000000001 ∷ 0x8000000000000000
    ∷ 0 ∷ 1 ∷ 0x3FF0000000000000 ∷ 0x7FF0000000000000 ∷ 0x7FF0000000000001 ∷ 0x7FF8000000000000 ∷ 0x7FFFFFFFFFFFFFFF ∷ []

abbrev rising : List ℕ
rising =
    0 ∷ 0x0007FFFFFFFFFFFF ∷ 0x000FFFFFFFFFFFFE ∷ 0x000FFFFFFFFFFFFF ∷ 0x400FFFFFFFFFFFFF ∷ 0x7FFFFFFFFFFFFFFE ∷ 0x7FFFFFFFFFFFFFFF
    ∷ 0x8000000000000000 ∷ 0x8000000000000001 ∷ 0xBFF0000000000000 ∷ 0xFFF0000000000000 ∷ 0xFFF0000000000001 ∷ 0xFFF8000000000000 ∷ 0xFFFFFFFFFFFFFFFF ∷ []

pub float_cases : (stored_as F64 patterns ≡ rising) × (map float_of rising ≡ patterns) × (map (reading_of F64).value rising ≡ patterns) × (map (meant F64) patterns ≡ patterns)
unfolding stored_in stored_float float_of
float_cases = (refl, refl, refl, refl)

-- a float lookup goes by the stored numbers: each zero is found alone, NaNs lie beyond the infinities, and from +0.0 to -0.0 there is none
abbrev floats_from : (low high : ℕ) → Outcome (List ℕ)
floats_from low high = looked_up (reads_as rising) 14 (between floats low high) 0 14 14

pub float_lookups : (floats_from 0x8000000000000000 0x8000000000000000 ≡ value (6 ∷ []))
    × (floats_from 0 0 ≡ value (7 ∷ []))
    × (floats_from 0x8000000000000000 0 ≡ value (6 ∷ 7 ∷ []))
    × (floats_from 0x7FF0000000000000 0x7FF8000000000000 ≡ value (10 ∷ 11 ∷ 12 ∷ []))
    × (floats_from 0xFFFFFFFFFFFFFFFF 0xFFF0000000000001 ≡ value (0 ∷ 1 ∷ 2 ∷ []))
    × (floats_from 0 0x8000000000000000 ≡ value [])
unfolding stored_float float_of looked_up all_read rows_passing
float_lookups = (refl, refl, refl, refl, refl, refl)

-- any word but 0 is true, and so is any stored number
abbrev counts : List ℕ
counts = 0 ∷ 1 ∷ 2 ∷ 0xFFFFFFFFFFFFFFFF ∷ []

abbrev truths : List Bool
truths = false ∷ true ∷ true ∷ true ∷ []

pub flag_cases : (stored_as Flag counts ≡ 0 ∷ 1 ∷ 1 ∷ 1 ∷ []) × (map flag_of counts ≡ truths) × (map (reading_of Flag).value counts ≡ truths) × (map (meant Flag) counts ≡ truths)
unfolding stored_in
flag_cases = (refl, refl, refl, refl)

-- plain numbers are stored, and read, as they stand
pub number_cases : (stored_as U64 counts ≡ counts) × (map (reading_of U64).value counts ≡ counts) × (map (meant U64) counts ≡ counts)
    × (looked_up (reads_as counts) 4 (between numbers 1 2) 0 4 4 ≡ value (1 ∷ 2 ∷ []))
unfolding stored_in looked_up all_read rows_passing
number_cases = (refl, refl, refl, refl)

-- a stored 2 is found as true
abbrev flags_from : (low high : Bool) → Outcome (List ℕ)
flags_from low high = looked_up (reads_as (0 ∷ 1 ∷ 2 ∷ [])) 3 (between flags low high) 0 3 3

pub flag_lookups : (flags_from true true ≡ value (1 ∷ 2 ∷ [])) × (flags_from false false ≡ value (0 ∷ [])) × (flags_from false true ≡ value (0 ∷ 1 ∷ 2 ∷ [])) × (flags_from true false ≡ value [])
unfolding looked_up all_read rows_passing
flag_lookups = (refl, refl, refl, refl)

-- a refused row decides before any range does, one of none too
abbrev refuses_one : ℕ → Outcome ℕ
refuses_one r = pick (eqb r 1) (refusal 14 (1 ∷ [])) (value 0)

pub refused_first : (looked_up refuses_one 3 (between flags true false) 0 3 3 ≡ refusal 14 (1 ∷ []))
    × (looked_up refuses_one 3 (between signeds (pos 1) (negsuc 0)) 0 3 3 ≡ refusal 14 (1 ∷ []))
    × (looked_up refuses_one 3 (between floats 0 0x8000000000000000) 0 3 3 ≡ refusal 14 (1 ∷ []))
unfolding looked_up all_read
refused_first = (refl, refl, refl)

-- the ranges of stored numbers: each end is mapped; from true to false is none
pub range_cases : (map (λ b. flag_range b false) (false ∷ true ∷ []) ≡ record { low = 0; high = 0 } ∷ record { low = 1; high = 0 } ∷ [])
    × (map (λ b. flag_range b true) (false ∷ true ∷ []) ≡ record { low = 0; high = 0xFFFFFFFFFFFFFFFF } ∷ record { low = 1; high = 0xFFFFFFFFFFFFFFFF } ∷ [])
    × (signed_range (negsuc 0) (pos 1) ≡ record { low = 0x7FFFFFFFFFFFFFFF; high = 0x8000000000000001 })
    × (float_range 0x8000000000000000 1 ≡ record { low = 0x7FFFFFFFFFFFFFFF; high = 0x8000000000000001 })
unfolding stored_signed stored_float
range_cases = (refl, refl, refl, refl)

-- -10, 10, 0 as a Bitpacked column: the minimum is 2^63 - 10
pub signed_column : written (stored_as I64 (0xFFFFFFFFFFFFFFF6 ∷ 10 ∷ 0 ∷ [])) (0 ∷ []) 16
    ≡ value (0x00 ∷ 0x76 ∷ 0x7F ∷ 0x7F ∷ 0x7F ∷ 0x7F ∷ 0x7F ∷ 0x7F ∷ 0x7F ∷ 0xFF ∷ 0x8A ∷ 0x82 ∷ 0x83 ∷ 0x18 ∷ [])
unfolding stored_in stored_signed signed_bits spell spell_in width bit_length bits_in packed bytes_of rows_bits bits_of num_of stats_of reduce fold_from gcd euclid spell_head body bitpacked written known chosen size_of
signed_column = refl
