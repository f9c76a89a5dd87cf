use Prim.Native.Nat.{◌/◌}
use lib.ListN.{length}
use Rattle.text_check.proofs.Inputs.{Putting}
use Rattle.text_check.proofs.given.put_values.Given as goal

abbrev pub invariant-loop-i : goal.invariant-loop-i
invariant-loop-i l = Putting l.file (length l.file / 8) l.initial.values l.i l.values
