-- A multiple of a divisor, told by multiplying back.
--     told_multiple    what the product with a number is, is a multiple
-- Assumes nothing.
use Rattle.std.proofs.Common.{◌≡◌, ℕ, ◌*◌, ◌%◌, sym, ap, ◌∙◌}
use native.Mathlib.Nat.{mul-mod_left}

pub told_multiple : (q by n : ℕ) → q * by ≡ n → n % by ≡ 0
told_multiple q by n e = sym (ap (λ (m : ℕ). m % by) e) ∙ mul-mod_left q by
