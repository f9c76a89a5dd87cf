use lib.ListN.{length, take, drop}
use Rattle.format.specs.Typed.{stored_as}
use Rattle.blockwise_estimator.specs.Writer.{normals}
use Rattle.blockwise_estimator.proofs.Filled.{Filled}
use Rattle.blockwise_estimator.proofs.load.Given as goal

abbrev pub invariant-loop-i : goal.invariant-loop-i
invariant-loop-i l = Filled (normals l.minimum l.gcd (take (length l.initial.block) (drop l.at (stored_as l.kind l.values)))) l.initial.block l.i l.block
