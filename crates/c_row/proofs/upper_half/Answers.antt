-- `c_row::upper_half` meets its contract.
-- Assumes nothing.
use Rattle.std.proofs.Common.{◌≡◌, ℕ, ◌+◌, ◌*◌, ◌/◌, ◌%◌, ◌^◌, ◌<◌, sym, ◌∙◌, bit_and, Fits, w64}
use mathlib.Core.Path.{subst}
use lib.Pow.{pow_pos, pow-add, shr_lt, split}
use lib.Bits.{and_mask}
use mir.Facts.{Fits-bits}
use Rattle.c_row.proofs.Halves.{mul_lt_pow, upper_digits, next}
use Rattle.c_row.proofs.upper_half.Goals as goal

-- the low 32 bits of a number, as the program takes them
abbrev low : ℕ → ℕ
low n = bit_and n 0xffff_ffff

-- the middle column's sum, with `lo` for how the low 32 bits of a number are taken
abbrev middle_of : (lo : ℕ → ℕ) (a b : ℕ) → ℕ
middle_of lo a b = a / 2 ^ 32 * lo b + lo a * lo b / 2 ^ 32

-- what the program computes
abbrev columns_of : (lo : ℕ → ℕ) (a b : ℕ) → ℕ
columns_of lo a b = a / 2 ^ 32 * (b / 2 ^ 32) + middle_of lo a b / 2 ^ 32 + (lo (middle_of lo a b) + lo a * (b / 2 ^ 32)) / 2 ^ 32

-- a mask of 32 ones takes the remainder by 2 ^ 32, so it is the upper half of the product
upper_half_law : (a b : ℕ) → columns_of low a b ≡ a * b / 2 ^ 64
unfolding next
upper_half_law a b =
    (λ i. columns_of (λ (n : ℕ). and_mask n 32 i) a b)
    ∙ sym (upper_digits (2 ^ 32) (a % 2 ^ 32) (a / 2 ^ 32) (b % 2 ^ 32) (b / 2 ^ 32) (pow_pos 32))
    ∙ (λ i. split a 32 i * split b 32 i / sym (pow-add 2 32 32) i)

-- the upper half of a product of two numbers of 64 bits has 64 bits
result_fits : (a b : ℕ) → a < 2 ^ 64 → b < 2 ^ 64 → Fits w64 (columns_of low a b)
result_fits a b ha hb = subst (λ (n : ℕ). Fits w64 n) (sym (upper_half_law a b)) (Fits-bits 64 tt (shr_lt 64 64 (mul_lt_pow 64 64 ha hb)))

pub overflow_add-result-2 : goal.overflow_add-result-2
overflow_add-result-2 c = result_fits c.args.u c.args.v c.ranges.u.fits c.ranges.v.fits

pub returns : goal.returns
returns c = upper_half_law c.args.u c.args.v
