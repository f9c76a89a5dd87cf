use Rattle.format.specs.Lookup.{within}
use Rattle.read_scan.proofs.Scans.{GatheredTo}
use Rattle.read_scan.proofs.gather_part.Given as goal

abbrev pub invariant-loop-i : goal.invariant-loop-i
invariant-loop-i l = GatheredTo (within l.low l.high) l.row l.n l.from l.initial.values l.values l.m l.i
