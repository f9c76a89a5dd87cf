-- The words of stored numbers, and what they mean.
--     flag_word, word_arm                                     the word of a bool, and of a kind that is told
--     plain_words                                             plain numbers are their own words
--     word_means                                              the word of a stored number is lent for the value that it reads as
-- Assumes nothing.
use mathlib.Core.Path.{◌≡◌, refl, sym, ap, ◌∙◌}
use mathlib.Core.Bool.{Bool, true, false}
use mathlib.Core.List.{List, [], ◌∷◌}
use Prim.Native.Nat.{ℕ, ◌^◌, ◌<◌, min}
use native.Mathlib.Omega.{arith}
use lib.Dec.{ltb}
use borrow.Author.Tests.{ltb-true, ltb-false}
use Rattle.format.specs.declared.Kind.{Kind}
use Rattle.format.specs.declared.Kind.TheVariants.{U64, I64, Date, Bool as Flag, F64}
use Rattle.format.specs.Typed.{stored_signed, signed_bits, signed_of, stored_flag, flag_of, reading_of, meant}
use Rattle.format.specs.Word.{mod_add}
use Rattle.format.specs.Outcome.{pick}
use Rattle.format.proofs.Mappings.{bits_stored, bits_in, signed_back}
use Rattle.monotonic_mapping.specs.Words.{word_of, words_as}

-- ---- one word

pub flag_word : (u : ℕ) → min u 1 ≡ stored_flag (flag_of u)
flag_word u = by_test (ltb 0 u) refl
  where
    by_test : (t : Bool) → ltb 0 u ≡ t → min u 1 ≡ pick t 1 0
    by_test true e = omega (arith, ltb-true 0 u e)
    by_test false e = omega (arith, ltb-false 0 u e)

-- of a kind that is told
pub word_arm : (u : ℕ) {kind k : Kind} {r : ℕ} → kind ≡ k → r ≡ word_of k u → r ≡ word_of kind u
word_arm u e f = f ∙ ap (λ (x : Kind). word_of x u) (sym e)

pub plain_words : (us : List ℕ) → words_as U64 us ≡ us
unfolding word_of
plain_words [] = refl
plain_words (u ∷ us) = ap (λ (l : List ℕ). u ∷ l) (plain_words us)

-- ---- what it means

signed_means : (u : ℕ) → u < 2 ^ 64 → signed_bits (mod_add u (2 ^ 63)) ≡ signed_of u
signed_means u h =
    let x = mod_add u (2 ^ 63) in
    let back : stored_signed (signed_bits x) ≡ u = bits_stored x (omega arith) ∙ omega arith in
    sym (signed_back (signed_bits x) (bits_in x (omega arith))) ∙ ap signed_of back

flag_means : (b : Bool) → ltb 0 (stored_flag b) ≡ b
flag_means true = refl
flag_means false = refl

-- the word of a stored number, lent as a value of the kind, is the value that the number reads as
pub word_means : (kind : Kind) (u : ℕ) → u < 2 ^ 64 → meant kind (word_of kind u) ≡ (reading_of kind).value u
unfolding word_of
word_means U64 u h = refl
word_means I64 u h = signed_means u h
word_means Date u h = signed_means u h
word_means Flag u h = flag_means (ltb 0 u)
word_means F64 u h = refl
