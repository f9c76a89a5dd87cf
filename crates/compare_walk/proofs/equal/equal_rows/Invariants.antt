use Rattle.compare_walk.specs.Equal.{side_row}
use Rattle.compare_walk.proofs.Equals.{Passing}
use Rattle.compare_walk.proofs.equal.equal_rows.Given as goal

abbrev pub invariant-loop-i : goal.invariant-loop-i
invariant-loop-i l = Passing (side_row l.left l.lbytes) (side_row l.right l.rbytes) l.first l.size l.i
