use Rattle.format.specs.Typed.{stored_as}
use Rattle.linear_estimator.proofs.Deviations.{Spreading}
use Rattle.linear_estimator.proofs.spread_of.Given as goal

abbrev pub invariant-loop-i : goal.invariant-loop-i
invariant-loop-i l = Spreading l.line (stored_as l.kind l.values) l.low l.high l.i
