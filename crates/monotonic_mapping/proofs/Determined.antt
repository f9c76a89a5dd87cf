-- What the calls promise determines the answers, and the lent list afterwards: two that it allows coincide.
--     stored_of_determined, signed_of_determined, flag_of_determined, float_of_determined, words_as_determined
--     signed_determined, flag_determined, float_determined
--     signed_range_determined, flag_range_determined, float_range_determined
-- Assumes nothing.
use Rattle.format.specs.declared.Refusal.{Refusal}
use Rattle.std.specs.Prelude.{Result}
use Prim.Native.Nat.{ℕ}
use mathlib.Core.Path.{◌≡◌, sym, ◌∙◌}
use mathlib.Core.Bool.{Bool}
use mathlib.Core.List.{List}
use lib.IntN.{ℤ}
use Rattle.format.specs.declared.Kind.{Kind}
use Rattle.format.specs.declared.Range.{Range}
use Rattle.format.proofs.Answers.{answered_injective}
use Rattle.monotonic_mapping.specs.Calls.{StoredOfAs, SignedOfAs, FlagOfAs, FloatOfAs, WordsOfAs, SignedReadAs, FlagReadAs, FloatReadAs, SignedRangeAs, FlagRangeAs, FloatRangeAs}

-- one value

pub stored_of_determined : (kind : Kind) (x a b : ℕ) → StoredOfAs kind x a → StoredOfAs kind x b → a ≡ b
stored_of_determined kind x a b p q = p ∙ sym q

pub signed_of_determined : (stored : ℕ) (a b : ℤ) → SignedOfAs stored a → SignedOfAs stored b → a ≡ b
signed_of_determined stored a b p q = p ∙ sym q

pub flag_of_determined : (stored : ℕ) (a b : Bool) → FlagOfAs stored a → FlagOfAs stored b → a ≡ b
flag_of_determined stored a b p q = p ∙ sym q

pub float_of_determined : (stored a b : ℕ) → FloatOfAs stored a → FloatOfAs stored b → a ≡ b
float_of_determined stored a b p q = p ∙ sym q

-- a list

pub words_as_determined : (kind : Kind) (list after after' : List ℕ) → WordsOfAs kind list after → WordsOfAs kind list after' → after ≡ after'
words_as_determined kind list after after' p q = p ∙ sym q

-- a row's answer

pub signed_determined : (read : Result ℕ Refusal) (a b : Result ℤ Refusal) → SignedReadAs read a → SignedReadAs read b → a ≡ b
signed_determined read a b p q = answered_injective a b (p ∙ sym q)

pub flag_determined : (read : Result ℕ Refusal) (a b : Result Bool Refusal) → FlagReadAs read a → FlagReadAs read b → a ≡ b
flag_determined read a b p q = answered_injective a b (p ∙ sym q)

pub float_determined : (read : Result ℕ Refusal) (a b : Result ℕ Refusal) → FloatReadAs read a → FloatReadAs read b → a ≡ b
float_determined read a b p q = answered_injective a b (p ∙ sym q)

-- a range

pub signed_range_determined : (low high : ℤ) (a b : Range) → SignedRangeAs low high a → SignedRangeAs low high b → a ≡ b
signed_range_determined low high a b p q = p ∙ sym q

pub flag_range_determined : (low high : Bool) (a b : Range) → FlagRangeAs low high a → FlagRangeAs low high b → a ≡ b
flag_range_determined low high a b p q = p ∙ sym q

pub float_range_determined : (low high : ℕ) (a b : Range) → FloatRangeAs low high a → FloatRangeAs low high b → a ≡ b
float_range_determined low high a b p q = p ∙ sym q
