use Rattle.read_scan.proofs.Copies.{CopiedTo}
use Rattle.read_scan.proofs.copy_rows.Given as goal

abbrev pub invariant-loop-i : goal.invariant-loop-i
invariant-loop-i l = CopiedTo l.rows l.initial.found l.at l.found l.i
