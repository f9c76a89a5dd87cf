-- `read_scan::tallied` meets its contract: its comparison is the range's.
-- Assumes nothing.
use native.Mathlib.Omega.{arith}
use Rattle.read_scan.proofs.Ranges.{turned, near, far}
use Rattle.read_scan.proofs.tallied.Goals as goal

pub returns-then-high-low : goal.returns-then-high-low
returns-then-high-low c = rw (turned _ _ _ c.if-high-low.true)

pub returns-then-sub-span : goal.returns-then-sub-span
returns-then-sub-span c = rw (near c.args.low c.args.high c.args.value (omega arith) (omega arith) (omega arith) (omega (arith, c.if-sub-span.true, c.sub.ensures)))

pub returns : goal.returns
returns c = rw (far c.args.low c.args.high c.args.value (omega arith) (omega arith) (omega arith) (omega (arith, c.if-sub-span.false, c.sub.ensures)))
