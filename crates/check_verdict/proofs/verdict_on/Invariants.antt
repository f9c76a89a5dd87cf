use lib.ListN.{length}
use Rattle.format.specs.Typed.{stored_as}
use Rattle.check_verdict.specs.Walks.{left}
use Rattle.check_verdict.proofs.Verdicts.{Turning}
use Rattle.check_verdict.proofs.verdict_on.Given as goal

abbrev pub invariant-loop-w : goal.invariant-loop-w
invariant-loop-w l = Turning l.bytes l.column l.rows (stored_as l.kind l.values) l.decoded l.pass l.w

abbrev pub decreases-loop-w : goal.decreases-loop-w
decreases-loop-w l = left (length (stored_as l.kind l.values)) l.w
