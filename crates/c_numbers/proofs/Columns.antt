-- Columns and their twelve numbers.
--     own_three                                     a codec's own numbers are three
--     no_counts, column_is, no_codec                twelve numbers as a column, once the counts and the codec are known
--     bitpacked_is, linear_is, too_wide, blockwise_is, unknown      the codec of a number
--     handed_back                                   a column's numbers are read back as that column
-- Assumes nothing.
use Prim.Native.Nat.{ℕ, zero, suc, ◌^◌, ◌≤◌, ◌<◌}
use mathlib.Core.Path.{◌≡◌, refl}
use mathlib.Core.Bool.{true, false}
use mathlib.Core.List.{List, [], ◌∷◌, ◌++◌}
use native.Mathlib.Omega.{arith}
use lib.ListN.{get_or}
use borrow.Author.Tests.{lt-ltb, le-ltb}
use Rattle.format.specs.declared.Codec.{Codec}
use Rattle.format.specs.declared.Codec.TheVariants.{Bitpacked, Linear, Blockwise}
use Rattle.format.specs.declared.Column.{Column}
use Rattle.format.specs.Listing.{code_of}
use Rattle.format.specs.Outcome.{Outcome, Outcome.value, Outcome.refusal}
use Rattle.c_numbers.specs.Numbers.{own_numbers, column_numbers, column_with, codec_from, counts_fit, column_from}

pub own_three : (codec : Codec) (more : List ℕ) → own_numbers codec ++ more ≡ get_or (own_numbers codec) 0 0 ∷ get_or (own_numbers codec) 1 0 ∷ get_or (own_numbers codec) 2 0 ∷ more
own_three Bitpacked more = refl
own_three (Linear l w) more = refl
own_three Blockwise more = refl

-- the codec that twelve numbers name
abbrev pub named : List ℕ → Outcome Codec
named ns = codec_from (get_or ns 0 0) (get_or ns 7 0) (get_or ns 8 0) (get_or ns 9 0)

pub no_counts : (ns : List ℕ) → counts_fit ns ≡ false → refusal 13 [] ≡ column_from ns
unfolding column_from
no_counts ns over = rw over

pub column_is : (ns : List ℕ) (codec : Codec) {r : Column} → counts_fit ns ≡ true → named ns ≡ value codec → r ≡ column_with ns codec → value r ≡ column_from ns
unfolding column_from
column_is ns codec few is made = rw (few, is, made)

pub no_codec : (ns : List ℕ) → counts_fit ns ≡ true → named ns ≡ refusal 13 [] → refusal 13 [] ≡ column_from ns
unfolding column_from
no_codec ns few none = rw (few, none)

module _ (code slope intercept bits : ℕ) where
  pub bitpacked_is : code ≡ 0 → codec_from code slope intercept bits ≡ value Bitpacked
  unfolding codec_from
  bitpacked_is e = rw e

  pub linear_is : code ≡ 1 → bits ≤ 255 → codec_from code slope intercept bits ≡ value (Linear (record { slope = slope; intercept = intercept }) bits)
  unfolding codec_from
  linear_is e byte = rw (e, lt-ltb bits (2 ^ 8) (omega arith))

  pub too_wide : code ≡ 1 → 255 < bits → codec_from code slope intercept bits ≡ refusal 13 []
  unfolding codec_from
  too_wide e over = rw (e, le-ltb bits (2 ^ 8) (omega arith))

  pub blockwise_is : code ≡ 2 → codec_from code slope intercept bits ≡ value Blockwise
  unfolding codec_from
  blockwise_is e = rw e

pub unknown : (code slope intercept bits : ℕ) → (code ≡ 0 → ⊥) → (code ≡ 1 → ⊥) → (code ≡ 2 → ⊥) → codec_from code slope intercept bits ≡ refusal 13 []
unfolding codec_from
unknown zero slope intercept bits n0 n1 n2 = absurd (n0 refl)
unknown (suc zero) slope intercept bits n0 n1 n2 = absurd (n1 refl)
unknown (suc (suc zero)) slope intercept bits n0 n1 n2 = absurd (n2 refl)
unknown (suc (suc (suc code))) slope intercept bits n0 n1 n2 = refl

-- what the types of a column's fields allow
pub record Typed (c : Column) : Type 0 where
  pub few : c.rows < 2 ^ 32
  pub from : c.window.first < 2 ^ 32
  pub seen : c.window.rows < 2 ^ 32
  pub byte : get_or (own_numbers c.codec) 2 0 < 2 ^ 8

-- the codec is read back
codec_back : (codec : Codec) → get_or (own_numbers codec) 2 0 < 2 ^ 8
    → codec_from (code_of codec) (get_or (own_numbers codec) 0 0) (get_or (own_numbers codec) 1 0) (get_or (own_numbers codec) 2 0) ≡ value codec
unfolding codec_from
codec_back Bitpacked byte = refl
codec_back (Linear l w) byte = rw (lt-ltb w (2 ^ 8) byte)
codec_back Blockwise byte = refl

-- the numbers behind the first seven
last_five : (c : Column) → own_numbers c.codec ++ (c.window.first ∷ c.window.rows ∷ [])
    ≡ get_or (own_numbers c.codec) 0 0 ∷ get_or (own_numbers c.codec) 1 0 ∷ get_or (own_numbers c.codec) 2 0 ∷ c.window.first ∷ c.window.rows ∷ []
last_five c = own_three c.codec (c.window.first ∷ c.window.rows ∷ [])

pub handed_back : (c : Column) → Typed c → column_from (column_numbers c) ≡ value c
unfolding column_from
handed_back c t =
    rw (last_five c, lt-ltb c.rows (2 ^ 32) t.few, lt-ltb c.window.first (2 ^ 32) t.from, lt-ltb c.window.rows (2 ^ 32) t.seen, codec_back c.codec t.byte)
