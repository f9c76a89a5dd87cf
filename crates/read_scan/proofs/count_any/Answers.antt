-- `read_scan::count_any` meets its contract, by the invariant `Tallying`.
-- Assumes nothing.
use native.Mathlib.Omega.{arith}
use Rattle.format.specs.Lookup.{within}
use Rattle.read_scan.proofs.Scans.{tally_more, tally_ends}
use Rattle.read_chunk.proofs.Rows.{rows_few}
use Rattle.read_scan.proofs.count_any.Goals as goal

pub loop-value-preserved : goal.loop-value-preserved
loop-value-preserved c = tally_more _ c.loop-value.invariant c.loop-value-test.true c.tallied-n.ensures

pub returns : goal.returns
returns c =
    let rows = tally_ends _ c.loop-value.invariant c.loop-value-test.false in
    record { by_index = rows; upper_bound = omega (arith, rows 0, rows_few (within c.args.low c.args.high) 0 c.args.values.now) }
