use Rattle.format.specs.Line.{residuals}
use Rattle.format.specs.Typed.{stored_as}
use Rattle.bitpacker.specs.Packer.{Packing}
use Rattle.linear_estimator.proofs.pack_residuals.Given as goal

abbrev pub invariant-loop-i : goal.invariant-loop-i
invariant-loop-i l = Packing l.bits (residuals l.line (stored_as l.kind l.values)) l.initial.out l.i l.packer l.out
