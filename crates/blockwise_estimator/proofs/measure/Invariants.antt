use Rattle.format.specs.Typed.{stored_as}
use Rattle.blockwise_estimator.specs.Writer.{normals}
use Rattle.blockwise_estimator.proofs.Walks.{Measuring}
use Rattle.blockwise_estimator.proofs.measure.Given as goal

abbrev pub invariant-loop-at : goal.invariant-loop-at
invariant-loop-at l = Measuring (normals l.minimum l.gcd (stored_as l.kind l.values)) l.rows l.area l.footer l.at
