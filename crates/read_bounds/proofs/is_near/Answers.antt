-- `read_bounds::is_near` meets its contract: a line that goes one way lies nowhere higher than at one of its ends.
-- Assumes nothing.
use Prim.Native.Nat.{ℕ, ◌+◌, ◌-◌, ◌^◌, ◌≤◌}
use mathlib.Core.Path.{◌≡◌, ap, ◌∙◌}
use mathlib.Core.Bool.{true}
use native.Mathlib.Omega.{arith}
use lib.Dec.{leb}
use lib.Pow.{pow_pos}
use borrow.Author.Tests.{leb-true}
use Rattle.format.specs.Word.{mod_sub}
use Rattle.read_bounds.proofs.Lines.{stays}
use Rattle.read_bounds.proofs.Sures.{never}
use Rattle.read_bounds.proofs.is_near.Goals as goal

-- the test with the power that was found
enough : (top p bits span : ℕ) → p ≡ 2 ^ bits → leb (top + (p - 1)) span ≡ true → top + (2 ^ bits - 1) ≤ span
enough top p bits span e t = rw (← e) (leb-true (top + (p - 1)) span t)

pub returns-then-bits-gt56 : goal.returns-then-bits-gt56
returns-then-bits-gt56 c = λ e. never e

pub returns-then-not-is_gentle : goal.returns-then-not-is_gentle
returns-then-not-is_gentle c = λ e. never e

pub returns-then-top-ge4611686018427387904 : goal.returns-then-top-ge4611686018427387904
returns-then-top-ge4611686018427387904 c = λ e. never e

pub overflow_sub-result : goal.overflow_sub-result
overflow_sub-result c = omega (arith, c.power.ensures.0, pow_pos c.args.bits)

pub returns : goal.returns
returns c =
    λ e. stays c.args.line c.args.bits c.args.from c.args.to c.args.low c.args.span _ _ _ c.requires.0 (omega arith) (omega (arith, c.power.ensures.0, c.power.ensures.1))
    (c.sub-start.ensures ∙ ap (λ (v : ℕ). mod_sub v c.args.low) c.eval.ensures) (c.sub-end.ensures ∙ ap (λ (v : ℕ). mod_sub v c.args.low) c.eval-2.ensures) c.larger-top.ensures c.if-top-ge4611686018427387904.false
    (enough _ _ c.args.bits _ c.power.ensures.0 e) (c.is_gentle.ensures (c.if-not-is_gentle.false))
