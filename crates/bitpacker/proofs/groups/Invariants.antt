use Prim.Native.Nat.{◌-◌}
use Rattle.bitpacker.proofs.RunLaws.{Grouping}
use Rattle.bitpacker.proofs.groups.Given as goal

abbrev pub invariant-loop-i : goal.invariant-loop-i
invariant-loop-i l = Grouping l.width l.first l.from l.to l.area l.initial.out l.out l.at l.i

abbrev pub decreases-loop-i : goal.decreases-loop-i
decreases-loop-i l = l.to - l.i
