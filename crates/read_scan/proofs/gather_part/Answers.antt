-- `read_scan::gather_part` meets its contract, by the invariant `GatheredTo`.
-- Assumes nothing.
use native.Mathlib.Omega.{arith}
use Rattle.read_scan.proofs.Scans.{part_more, part_ends}
use Rattle.read_scan.proofs.gather_part.Goals as goal

pub loop-i-preserved : goal.loop-i-preserved
loop-i-preserved c = part_more _ c.loop-i.invariant (omega arith) c.tallied-m.ensures

pub returns : goal.returns
returns c = part_ends _ _ c.loop-i.invariant (omega arith) c.loop-i-test.false
