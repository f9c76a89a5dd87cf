-- `read_scan::gather_groups` meets its contract, by the invariant `Gathering`.
-- Assumes nothing.
use Prim.Native.Nat.{◌+◌, ◌*◌, ◌/◌}
use mathlib.Core.Path.{◌≡◌}
use native.Mathlib.Omega.{arith}
use lib.ListN.{length}
use Rattle.read_scan.proofs.Scans.{gather_ends}
use Rattle.read_scan.proofs.gather_groups.Goals as goal

pub loop-group-preserved : goal.loop-group-preserved
loop-group-preserved c =
    let next : 16 * c.loop-group.group + 16 ≡ 16 * (c.loop-group.group + 1) = omega arith in
    let gathered = c.gather_group-n.ensures _ c.loop-group.invariant in
    rw next at gathered

pub returns : goal.returns
returns c =
    let all : c.loop-group.group ≡ length c.args.values.now / 16 = omega arith in
    let f = c.loop-group.invariant in
    let g = c.gather_part.ensures _ (rw all at f) in
    (omega (arith, g.small, g.most), gather_ends _ g (omega arith))
