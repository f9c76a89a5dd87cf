use Rattle.raising.proofs.Filling.{Scaling}
use Rattle.raising.proofs.scale.Given as goal

abbrev pub invariant-loop-i : goal.invariant-loop-i
invariant-loop-i l = Scaling l.minimum l.gcd l.count l.initial.values l.values l.i
