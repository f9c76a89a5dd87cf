use Rattle.raising.specs.Raising.{itself}
use Rattle.raising.proofs.Raises.{Raising}
use Rattle.raising.proofs.lift.Given as goal

abbrev pub invariant-loop-value : goal.invariant-loop-value
invariant-loop-value l = Raising itself l.minimum l.limit l.initial.values l.values l.seen l.value-index
