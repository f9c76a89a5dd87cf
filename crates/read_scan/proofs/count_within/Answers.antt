-- `read_scan::count_within` meets its contract: what lies outside the range is counted where the top bits tell it.
-- Assumes nothing.
use Prim.Native.Nat.{ℕ, ◌+◌, ◌-◌, ◌≤◌}
use mathlib.Core.Path.{◌≡◌}
use mathlib.Core.List.{List}
use native.Mathlib.Omega.{arith}
use lib.ListN.{length}
use Rattle.format.specs.Lookup.{within}
use Rattle.read_chunk.specs.Rows.{rows_among}
use Rattle.read_scan.specs.Counts.{OutsideOf}
use Rattle.read_scan.proofs.count_within.Goals as goal

others_of : (low high n : ℕ) (values : List ℕ) → low ≤ high → OutsideOf low (low + (high - low)) n values → (r : ℕ) → length values - n ≡ length (rows_among (within low high) r values)
others_of low high n values ordered f r =
    let back : low + (high - low) ≡ high = omega arith in
    let all = f.others r in
    rw back at all

pub returns : goal.returns
returns c = record { by_index = others_of _ _ _ _ c.if-high-low.false c.count_outside.ensures; upper_bound = omega arith }
