-- The gcd of a multiple.
--     gcd_multiple                 the gcd of a number and of one that divides it is the latter
--     stays_one, stays_multiple    a gcd that is 1, or divides the next number, stays
-- Assumes nothing.
use Prim.Native.Nat.{ℕ, zero, suc, ◌%◌}
use mathlib.Core.Path.{◌≡◌, sym, ap, ◌∙◌}
use native.Mathlib.Nat.{mod-zero, zero-lt-suc}
use Rattle.format.specs.Stats.{gcd}
use Rattle.format.proofs.Gcds.{gcd_zero, gcd_turn, gcd_one}

pub gcd_multiple : (a b : ℕ) → a % b ≡ 0 → gcd a b ≡ b
gcd_multiple a zero e = gcd_zero a ∙ sym (mod-zero a) ∙ e
gcd_multiple a (suc b) e = gcd_turn a (suc b) (zero-lt-suc b) ∙ ap (gcd (suc b)) e ∙ gcd_zero (suc b)

pub stays_one : (a g : ℕ) → g ≡ 1 → g ≡ gcd a g
stays_one a g e = e ∙ sym (gcd_one a) ∙ ap (gcd a) (sym e)

pub stays_multiple : (a d g : ℕ) → d ≡ a → d % g ≡ 0 → g ≡ gcd a g
stays_multiple a d g e m = sym (gcd_multiple a g (ap (λ (n : ℕ). n % g) (sym e) ∙ m))
