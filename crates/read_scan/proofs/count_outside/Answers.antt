-- `read_scan::count_outside` meets its contract, by the invariant `Sparing`.
-- Assumes nothing.
use native.Mathlib.Omega.{arith}
use Rattle.read_scan.proofs.Scans.{spare_more, spare_ends}
use Rattle.read_scan.proofs.count_outside.Goals as goal

pub loop-value-preserved : goal.loop-value-preserved
loop-value-preserved c = spare_more _ c.loop-value.invariant c.loop-value-test.true c.passed_over-n.ensures

pub returns : goal.returns
returns c =
    let f = c.loop-value.invariant in
    record { few = omega (arith, f.sum, f.most); others = spare_ends _ f c.loop-value-test.false }
