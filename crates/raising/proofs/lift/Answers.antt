-- `raising::lift` meets its contract, by the invariant `Raising`.
-- Assumes nothing.
use mathlib.Core.Path.{refl}
use native.Mathlib.Omega.{arith}
use Rattle.raising.proofs.Raises.{raising_starts, raising_more, raising_ends, raising_within, clear}
use Rattle.raising.proofs.lift.Goals as goal

pub loop-value-init : goal.loop-value-init
loop-value-init c = raising_starts _ _ _ _

pub over-seen-requires : goal.over-seen-requires
over-seen-requires c = c.requires

pub loop-value-preserved : goal.loop-value-preserved
loop-value-preserved c = raising_more _ _ _ _ c.loop-value.invariant (omega arith) refl c.add.ensures c.over-seen.ensures

pub shape_of-values : goal.shape_of-values
shape_of-values c = c.loop-value.invariant.kept

pub returns : goal.returns
returns c =
    let r = c.loop-value.invariant in
    (raising_ends _ _ _ _ r (omega arith), λ all. raising_within _ _ _ _ r (omega arith) (clear all))
