-- `read_scan::passed_over` meets its contract: the top bit is what is added.
-- Assumes nothing.
use Prim.Native.Nat.{◌+◌}
use Rattle.format.specs.Lookup.{within}
use Rattle.read_scan.proofs.Ranges.{adds_top}
use Rattle.read_scan.proofs.passed_over.Goals as goal

pub returns : goal.returns
returns c = adds_top (within c.args.low (c.args.low + c.args.span) c.args.value) _ _ c.beyond-outside.ensures
