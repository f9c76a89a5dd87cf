use Rattle.format.specs.Lookup.{within}
use Rattle.read_scan.proofs.Scans.{Tallying}
use Rattle.read_scan.proofs.count_any.Given as goal

abbrev pub invariant-loop-value : goal.invariant-loop-value
invariant-loop-value l = Tallying (within l.low l.high) l.values l.n l.value-index
