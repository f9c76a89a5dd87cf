-- The product of two numbers in halves is, modulo 2 ^ 64, the low halves' product and 2 ^ 32 times the cross products.
use Rattle.std.proofs.Common.{◌≡◌, ℕ, ◌+◌, ◌*◌, ◌/◌, ◌%◌, ◌^◌, sym, refl, ap, ◌∙◌, ap₂, add_assoc, mul_assoc, mul_comm, add-mul, add_comm, div-add-mod', mul-add, mul_left_comm}
use native.Mathlib.Nat.{add_left_comm, add-mod-mod, mul-add-mod_self_right}
use Rattle.format.specs.Word.{mod_mul}
use Rattle.word.proofs.mul.Goals as goal

-- the product of two numbers in halves, multiplied out
columns : (P a₁ a₀ b₁ b₀ : ℕ) → (a₁ * P + a₀) * (b₁ * P + b₀) ≡ a₁ * b₁ * (P * P) + ((a₁ * b₀ + a₀ * b₁) * P + a₀ * b₀)
columns P a₁ a₀ b₁ b₀ = simp (mul-add, add-mul, mul_assoc, mul_comm, mul_left_comm, add_assoc, add_comm, add_left_comm) refl

-- whole words of the cross products move to the words that are dropped
carried : (P x q r l : ℕ) → x * (P * P) + ((q * (P * P) + r) * P + l) ≡ (x + q * P) * (P * P) + (l + r * P)
carried P x q r l = simp (add-mul, mul_assoc, mul_comm, mul_left_comm, add_assoc, add_comm, add_left_comm) refl

-- what the program computes is the product modulo 2 ^ 64
halves : (a b : ℕ) → (a % 2 ^ 32 * (b % 2 ^ 32) + (a / 2 ^ 32 * (b % 2 ^ 32) + a % 2 ^ 32 * (b / 2 ^ 32)) % 2 ^ 64 * 2 ^ 32 % 2 ^ 64) % 2 ^ 64 ≡ mod_mul a b
halves a b =
    let a₁ = a / 2 ^ 32 in
    let a₀ = a % 2 ^ 32 in
    let b₁ = b / 2 ^ 32 in
    let b₀ = b % 2 ^ 32 in
    let cross = a₁ * b₀ + a₀ * b₁ in
    add-mod-mod (a₀ * b₀) (cross % 2 ^ 64 * 2 ^ 32) (2 ^ 64)
    ∙ sym (mul-add-mod_self_right (a₁ * b₁ + cross / 2 ^ 64 * 2 ^ 32) (2 ^ 64) (a₀ * b₀ + cross % 2 ^ 64 * 2 ^ 32))
    ∙ ap (λ (n : ℕ). n % 2 ^ 64)
    (sym (carried (2 ^ 32) (a₁ * b₁) (cross / 2 ^ 64) (cross % 2 ^ 64) (a₀ * b₀))
    ∙ ap (λ (n : ℕ). a₁ * b₁ * 2 ^ 64 + (n * 2 ^ 32 + a₀ * b₀)) (div-add-mod' cross (2 ^ 64))
    ∙ sym (columns (2 ^ 32) a₁ a₀ b₁ b₀)
    ∙ ap₂ (λ (x y : ℕ). x * y) (div-add-mod' a (2 ^ 32)) (div-add-mod' b (2 ^ 32)))

pub returns : goal.returns
returns c = rw (c.wrapping_add_u64.ensures.value, c.wrapping_add_u64-cross.ensures.value) (halves _ _)
