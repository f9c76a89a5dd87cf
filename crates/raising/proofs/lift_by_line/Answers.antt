-- `raising::lift_by_line` meets its contract, by the invariant `Raising`: the product is that of the place at hand.
-- Assumes nothing.
use Prim.Native.Nat.{ℕ, ◌+◌, ◌^◌}
use mathlib.Core.Path.{◌≡◌, sym, ap, ◌∙◌}
use native.Mathlib.Nat.{add-zero}
use native.Mathlib.Omega.{arith}
use Rattle.format.specs.Word.{mod_add, mod_sub, mod_mul}
use Rattle.raising.proofs.Raises.{raising_starts, raising_more, raising_ends, raising_within, product_next, clear}
use Rattle.raising.proofs.lift_by_line.Invariants.{by}
use Rattle.raising.proofs.lift_by_line.Goals as goal

pub loop-value-init : goal.loop-value-init
loop-value-init c = (raising_starts _ _ _ _, c.add-product.ensures ∙ ap (λ (p : ℕ). mod_add p (2 ^ 63)) (c.mul.ensures ∙ ap (λ (x : ℕ). mod_mul x c.args.line.slope) (sym (add-zero c.args.from))))

pub over-seen-requires : goal.over-seen-requires
over-seen-requires c = c.requires

pub loop-value-preserved : goal.loop-value-preserved
loop-value-preserved c =
    let height = c.height_at-height.ensures (by c.args.line.slope c.args.line.intercept) (c.args.from + c.loop-value.value-index) c.args.low (omega arith) (c.sub-base.ensures ∙ ap (λ (y : ℕ). mod_sub y c.args.low) c.sub.ensures) c.loop-value.invariant.1 in
    let next : c.args.from + c.loop-value.value-index + 1 ≡ c.args.from + (c.loop-value.value-index + 1) = omega arith in
    (raising_more _ _ _ _ c.loop-value.invariant.0 (omega arith) height c.add.ensures c.over-seen.ensures, c.add-product-in-loop-value.ensures ∙ product_next _ _ _ c.loop-value.invariant.1 ∙ ap (λ (x : ℕ). mod_add (mod_mul x c.args.line.slope) (2 ^ 63)) next)

pub shape_of-values : goal.shape_of-values
shape_of-values c = c.loop-value.invariant.0.kept

pub returns : goal.returns
returns c =
    let r = c.loop-value.invariant.0 in
    (raising_ends _ _ _ _ r (omega arith), λ all. raising_within _ _ _ _ r (omega arith) (clear all))
