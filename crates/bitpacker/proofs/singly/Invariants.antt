use Rattle.bitpacker.proofs.RunLaws.{Single}
use Rattle.bitpacker.proofs.singly.Given as goal

abbrev pub invariant-loop-value : goal.invariant-loop-value
invariant-loop-value l = Single l.width l.first l.from l.area l.value-items l.bit l.value-index
