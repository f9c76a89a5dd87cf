use Rattle.bitpacker.specs.Packer.{Packing}
use Rattle.bitpacker.proofs.pack.Given as goal

abbrev pub invariant-loop-value : goal.invariant-loop-value
invariant-loop-value l = Packing l.width l.values l.initial.out l.value-index l.packer l.out
