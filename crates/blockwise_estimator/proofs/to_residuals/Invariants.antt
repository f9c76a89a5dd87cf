use Rattle.format.specs.Line.{residuals}
use Rattle.blockwise_estimator.proofs.Filled.{Filled}
use Rattle.blockwise_estimator.proofs.to_residuals.Given as goal

abbrev pub invariant-loop-i : goal.invariant-loop-i
invariant-loop-i l = Filled (residuals l.line l.initial.ys) l.initial.ys l.i l.ys
