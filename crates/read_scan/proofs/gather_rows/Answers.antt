-- `read_scan::gather_rows` meets its contract: gathering from the beginning to the end.
-- Assumes nothing.
use native.Mathlib.Omega.{arith}
use Rattle.format.specs.Lookup.{within}
use Rattle.read_scan.proofs.Scans.{gather_starts, gather_ends}
use Rattle.read_scan.proofs.gather_rows.Goals as goal

pub returns : goal.returns
returns c =
    let g = c.gather_part.ensures _ (gather_starts (within c.args.low c.args.high) _ c.args.row) in
    (omega (arith, g.small, g.most), gather_ends _ g (omega arith))
