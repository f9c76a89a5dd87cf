use Prim.Native.Nat.{◌-◌, ◌/◌}
use mathlib.Core.List.{map}
use Rattle.format.specs.Typed.{stored_as}
use Rattle.bitpacker.specs.Packer.{Packing}
use Rattle.bitpacked_estimator.proofs.pack_normalised.Given as goal

abbrev pub invariant-loop-value : goal.invariant-loop-value
invariant-loop-value l = Packing l.bits (map (λ v. (v - l.minimum) / l.gcd.by) (stored_as l.kind l.values)) l.initial.out l.value-index l.packer l.out
