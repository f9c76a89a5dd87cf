-- `to_residuals` meets its contract: the values are overwritten from the left, each by its residual, and those to come are as they were.
-- Assumes nothing.
use mathlib.Core.Path.{sym}
use native.Mathlib.Omega.{arith}
use Rattle.format.proofs.Lines.{residuals-length}
use Rattle.blockwise_estimator.proofs.Filled.{filled-starts, filled-ends, residual_stored}
use Rattle.blockwise_estimator.proofs.to_residuals.Goals as goal

pub loop-i-init : goal.loop-i-init
loop-i-init c = filled-starts _ _ (sym (residuals-length _ _))

pub loop-i-preserved : goal.loop-i-preserved
loop-i-preserved c = residual_stored _ c.loop-i.invariant (omega (arith, c.loop-i.invariant.same)) c.residual.ensures

pub returns : goal.returns
returns c = filled-ends c.loop-i.invariant (omega (arith, c.loop-i.invariant.same))
