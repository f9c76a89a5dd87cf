use Rattle.format.specs.Typed.{stored_as}
use Rattle.blockwise_estimator.specs.Writer.{normals}
use Rattle.blockwise_estimator.proofs.Walks.{Placing}
use Rattle.blockwise_estimator.proofs.write_blocks.Given as goal

abbrev pub invariant-loop-at : goal.invariant-loop-at
invariant-loop-at l = Placing (normals l.minimum l.gcd (stored_as l.kind l.values)) l.rows l.initial.out 0 l.mid l.out l.area l.footer l.at
