-- `read_scan::copy_rows` meets its contract, by the invariant `CopiedTo`.
-- Assumes nothing.
use Rattle.read_scan.proofs.Copies.{copy_more, copy_ends}
use Rattle.read_scan.proofs.copy_rows.Goals as goal

pub loop-i-preserved : goal.loop-i-preserved
loop-i-preserved c = copy_more c.loop-i.invariant c.loop-i-test.true

pub returns : goal.returns
returns c = copy_ends c.loop-i.invariant c.loop-i-test.false
