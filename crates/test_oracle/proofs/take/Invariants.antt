-- What was taken stays in the list.
use Rattle.std.proofs.Common.{◌≡◌, length}
use Rattle.test_oracle.proofs.take.Given as goal

abbrev pub invariant-loop-i : goal.invariant-loop-i
invariant-loop-i l = length l.values ≡ 1056
