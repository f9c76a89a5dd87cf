use Prim.Native.Nat.{◌+◌}
use Rattle.format.specs.Lookup.{within}
use Rattle.read_scan.proofs.Scans.{Baring}
use Rattle.read_scan.proofs.is_bare.Given as goal

abbrev pub invariant-loop-value : goal.invariant-loop-value
invariant-loop-value l = Baring (within l.low (l.low + l.span)) l.values l.from l.seen (l.from + l.value-index)
