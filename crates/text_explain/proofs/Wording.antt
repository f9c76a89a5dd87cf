-- Names by their numbers: where their words lie, and what a name is made of.
--     word_inside                             the words of a name lie behind those of the one before it, and in the list of words
--     before_low, before_high, before_block   what stands before them
--     Named, name_made                        the name
-- Assumes nothing.
use Prim.Native.Nat.{ℕ, ◌+◌, ◌^◌, ◌≤◌, ◌<◌}
use mathlib.Core.Path.{◌≡◌, refl}
use mathlib.Core.List.{[], ◌++◌}
use native.Mathlib.Numerals.{add-one}
use native.Mathlib.Omega.{arith}
use lib.Dec.{leb}
use lib.ListN.{length, get_or}
use borrow.Author.Tests.{leb-true, le-leb, lt-leb}
use Rattle.format.specs.declared.PartName.{PartName}
use Rattle.format.specs.declared.PartName.TheVariants.{Code, Minimum, Gcd, Count, Rows, Slope, Intercept, Width, Area, Behind, BlockSlope, BlockIntercept, BlockWidth, Spare, FooterLength}
use Rattle.format.specs.Listing.{ascii, named}
use Rattle.format.proofs.Savings.{every_at, rises_at}
use Rattle.text.proofs.Decimals.{length-decimal}
use Rattle.text.proofs.Texts.{length-named}
use Rattle.byte_part.specs.Names.{which_part, block_of}
use Rattle.text_explain.specs.Explained.{name_max, name_text}
use Rattle.text_explain.specs.Words.{words, ends, word_start, word, before}

-- ---- where words lie

starts_rise : (k : ℕ) → k < 15 → (word_start k ≤ word_start (k + 1)) × (word_start (k + 1) ≤ length words)
starts_rise k h =
    let rises = rises_at 0 ends refl k h in
    let inside = leb-true (get_or ends k 0) 92 (every_at (λ _ end. leb end 92) ends refl k h) in
    rw (add-one k) (omega (arith, rises), inside)

pub word_inside : {which start end : ℕ} → which < 15 → start ≡ word_start which → end ≡ word_start (which + 1) → (start ≤ end) × (end ≤ length words)
word_inside {which} few s e = rw (s, e) (starts_rise which few)

-- ---- what stands before them

module _ (which block : ℕ) where
  pub before_low : which < 10 → before which block ≡ []
  before_low h = rw (lt-leb 10 which h)

  pub before_high : 12 < which → before which block ≡ []
  before_high h = rw (le-leb 10 which (omega arith), lt-leb which 12 h)

  pub before_block : 10 ≤ which → which ≤ 12 → before which block ≡ named (ascii "block ") block
  before_block low high = rw (le-leb 10 which low, le-leb which 12 high)

-- ---- names

which_few : (n : PartName) → which_part n < 15
which_few Code = omega arith
which_few Minimum = omega arith
which_few Gcd = omega arith
which_few Count = omega arith
which_few Rows = omega arith
which_few Slope = omega arith
which_few Intercept = omega arith
which_few Width = omega arith
which_few Area = omega arith
which_few Behind = omega arith
which_few (BlockSlope k) = omega arith
which_few (BlockIntercept k) = omega arith
which_few (BlockWidth k) = omega arith
which_few Spare = omega arith
which_few FooterLength = omega arith

name_is : (n : PartName) → before (which_part n) (block_of n) ++ word (which_part n) ≡ name_text n
unfolding word
name_is Code = refl
name_is Minimum = refl
name_is Gcd = refl
name_is Count = refl
name_is Rows = refl
name_is Slope = refl
name_is Intercept = refl
name_is Width = refl
name_is Area = refl
name_is Behind = refl
name_is (BlockSlope k) = refl
name_is (BlockIntercept k) = refl
name_is (BlockWidth k) = refl
name_is Spare = refl
name_is FooterLength = refl

-- a block's number has at most ten digits
block_short : (k : ℕ) → k < 2 ^ 32 → length (named (ascii "block ") k) ≤ 16
block_short k h = omega (arith, length-named (ascii "block ") k, length-decimal 9 k (omega arith))

name_short : (n : PartName) → block_of n < 2 ^ 32 → length (before (which_part n) (block_of n)) + length (word (which_part n)) ≤ name_max
unfolding word
name_short Code h = omega arith
name_short Minimum h = omega arith
name_short Gcd h = omega arith
name_short Count h = omega arith
name_short Rows h = omega arith
name_short Slope h = omega arith
name_short Intercept h = omega arith
name_short Width h = omega arith
name_short Area h = omega arith
name_short Behind h = omega arith
name_short (BlockSlope k) h = omega (arith, block_short k h)
name_short (BlockIntercept k) h = omega (arith, block_short k h)
name_short (BlockWidth k) h = omega (arith, block_short k h)
name_short Spare h = omega arith
name_short FooterLength h = omega arith

-- the name of two numbers, of which the second is a block's, or 0
pub record Named (n : PartName) (which block : ℕ) : Type 0 where
  pub few : which < 15
  pub short : length (before which block) + length (word which) ≤ name_max
  pub is : before which block ++ word which ≡ name_text n

pub name_made : (n : PartName) {which block : ℕ} → which ≡ which_part n → block ≡ block_of n → block < 2 ^ 32 → Named n which block
name_made n w b h = rw (w, b) (record { few = which_few n; short = name_short n (rw b at h); is = name_is n })
