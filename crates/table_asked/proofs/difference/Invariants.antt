-- The search is under way: no row before the one at hand differs.
use Rattle.compare_walk.specs.Walking.{to_go, ByRows}
use Rattle.table_asked.proofs.difference.Given as goal

abbrev pub invariant-loop-w : goal.invariant-loop-w
invariant-loop-w l = ByRows l.left l.ltable l.lbytes l.right l.rtable l.rbytes l.from l.w

abbrev pub decreases-loop-w : goal.decreases-loop-w
decreases-loop-w l = to_go l.w
