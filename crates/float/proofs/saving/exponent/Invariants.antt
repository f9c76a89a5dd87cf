use Rattle.float.proofs.Searching.{Search}
use Rattle.float.proofs.saving.exponent.Given as goal

abbrev pub invariant-loop-k : goal.invariant-loop-k
invariant-loop-k l = Search l.gcd l.x l.last l.k
