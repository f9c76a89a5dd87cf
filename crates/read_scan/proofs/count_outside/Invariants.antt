use Prim.Native.Nat.{◌+◌}
use Rattle.format.specs.Lookup.{within}
use Rattle.read_scan.proofs.Scans.{Sparing}
use Rattle.read_scan.proofs.count_outside.Given as goal

abbrev pub invariant-loop-value : goal.invariant-loop-value
invariant-loop-value l = Sparing (within l.low (l.low + l.span)) l.values l.n l.value-index
