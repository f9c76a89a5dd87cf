use Prim.Native.Nat.{◌+◌, ◌*◌}
use Rattle.format.specs.Lookup.{within}
use Rattle.read_scan.specs.Gatherings.{Gathering}
use Rattle.read_scan.proofs.gather_groups.Given as goal

abbrev pub invariant-loop-group : goal.invariant-loop-group
invariant-loop-group l = Gathering (within l.low (l.low + l.span)) l.initial.values l.row l.values l.n (16 * l.group)
