-- The upper half of a product of two numbers of 64 bits, by the products of their halves, column by column with carries.
--     mul_lt_pow        a product's bits
--     upper_digits      the upper two of the four digits of a product, in any base
-- Assumes nothing.
use mathlib.Core.Path.{◌≡◌, refl, sym, ap, ◌∙◌}
use Prim.Native.Nat.{ℕ, zero, ◌+◌, ◌*◌, ◌/◌, ◌%◌, ◌^◌, ◌<◌}
use native.Mathlib.Nat.{add_assoc, add_comm, add_left_comm, mul_assoc, mul_comm, mul_left_comm, mul-add, add-mul, mod-lt, div-add-mod', le_of_lt, lt_of_le_of_lt, mul-le-mul_left}
use lib.Arith.{digits_lt, digits_div}
use lib.Pow.{shl_lt}

-- a number of s bits times one of t bits has at most s + t bits
pub mul_lt_pow : {a b : ℕ} (s t : ℕ) → a < 2 ^ s → b < 2 ^ t → a * b < 2 ^ (s + t)
mul_lt_pow {a} s t ha hb = lt_of_le_of_lt (mul-le-mul_left a (le_of_lt hb)) (shl_lt s t ha)

-- four regroupings of sums and products

step₁ : (P a₀ a₁ b₀ b₁ : ℕ) → (a₁ * P + a₀) * (b₁ * P + b₀) ≡ a₁ * b₁ * (P * P) + a₁ * b₀ * P + a₀ * b₁ * P + a₀ * b₀
step₁ P a₀ a₁ b₀ b₁ = simp (mul-add, add-mul, mul_assoc, mul_comm, mul_left_comm, add_assoc, add_comm, add_left_comm) refl

step₂ : (P a₀ a₁ b₀ b₁ q₀ r₀ : ℕ) → a₁ * b₁ * (P * P) + a₁ * b₀ * P + a₀ * b₁ * P + (q₀ * P + r₀) ≡ a₁ * b₁ * (P * P) + (a₁ * b₀ + q₀) * P + a₀ * b₁ * P + r₀
step₂ P a₀ a₁ b₀ b₁ q₀ r₀ = simp (mul-add, add-mul, mul_assoc, mul_comm, mul_left_comm, add_assoc, add_comm, add_left_comm) refl

step₃ : (P a₀ a₁ b₁ r₀ q r : ℕ) → a₁ * b₁ * (P * P) + (q * P + r) * P + a₀ * b₁ * P + r₀ ≡ a₁ * b₁ * (P * P) + q * (P * P) + (r + a₀ * b₁) * P + r₀
step₃ P a₀ a₁ b₁ r₀ q r = simp (mul-add, add-mul, mul_assoc, mul_comm, mul_left_comm, add_assoc, add_comm, add_left_comm) refl

step₄ : (P a₁ b₁ r₀ q q₁ r₁ : ℕ) → a₁ * b₁ * (P * P) + q * (P * P) + (q₁ * P + r₁) * P + r₀ ≡ (a₁ * b₁ + q + q₁) * (P * P) + (r₁ * P + r₀)
step₄ P a₁ b₁ r₀ q q₁ r₁ = simp (mul-add, add-mul, mul_assoc, mul_comm, mul_left_comm, add_assoc, add_comm, add_left_comm) refl

-- the product by its columns, given each column's carry and digit
columns : (P a₀ a₁ b₀ b₁ q₀ r₀ q r q₁ r₁ : ℕ) → a₀ * b₀ ≡ q₀ * P + r₀ → a₁ * b₀ + q₀ ≡ q * P + r → r + a₀ * b₁ ≡ q₁ * P + r₁ → (a₁ * P + a₀) * (b₁ * P + b₀) ≡ (a₁ * b₁ + q + q₁) * (P * P) + (r₁ * P + r₀)
columns P a₀ a₁ b₀ b₁ q₀ r₀ q r q₁ r₁ e₀ e e₁ =
    step₁ P a₀ a₁ b₀ b₁ ∙ ap (λ (x : ℕ). a₁ * b₁ * (P * P) + a₁ * b₀ * P + a₀ * b₁ * P + x) e₀
    ∙ step₂ P a₀ a₁ b₀ b₁ q₀ r₀ ∙ ap (λ (x : ℕ). a₁ * b₁ * (P * P) + x * P + a₀ * b₁ * P + r₀) e
    ∙ step₃ P a₀ a₁ b₁ r₀ q r ∙ ap (λ (x : ℕ). a₁ * b₁ * (P * P) + q * (P * P) + x * P + r₀) e₁
    ∙ step₄ P a₁ b₁ r₀ q q₁ r₁

-- the middle column's sum, and the next one's, as the program computes them
unfoldable pub middle : (P a₀ a₁ b₀ : ℕ) → ℕ
middle P a₀ a₁ b₀ = a₁ * b₀ + a₀ * b₀ / P

unfoldable pub next : (P a₀ a₁ b₀ b₁ : ℕ) → ℕ
unfolding middle
next P a₀ a₁ b₀ b₁ = middle P a₀ a₁ b₀ % P + a₀ * b₁

-- the upper two digits of the product
pub upper_digits : (P a₀ a₁ b₀ b₁ : ℕ) → zero < P → (a₁ * P + a₀) * (b₁ * P + b₀) / (P * P) ≡ a₁ * b₁ + middle P a₀ a₁ b₀ / P + next P a₀ a₁ b₀ b₁ / P
unfolding next
upper_digits P a₀ a₁ b₀ b₁ h =
    ap (λ (n : ℕ). n / (P * P))
    (columns P a₀ a₁ b₀ b₁ (a₀ * b₀ / P) (a₀ * b₀ % P) (middle P a₀ a₁ b₀ / P) (middle P a₀ a₁ b₀ % P) (next P a₀ a₁ b₀ b₁ / P) (next P a₀ a₁ b₀ b₁ % P)
    (sym (div-add-mod' (a₀ * b₀) P)) (sym (div-add-mod' (middle P a₀ a₁ b₀) P)) (sym (div-add-mod' (next P a₀ a₁ b₀ b₁) P)))
    ∙ digits_div (a₁ * b₁ + middle P a₀ a₁ b₀ / P + next P a₀ a₁ b₀ b₁ / P) (digits_lt (mod-lt (next P a₀ a₁ b₀ b₁) h) (mod-lt (a₀ * b₀) h))
