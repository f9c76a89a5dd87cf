-- `read_scan::gather_few` meets its contract: the range of a span is that of its ends.
-- Assumes nothing.
use Prim.Native.Nat.{ℕ, ◌+◌, ◌-◌, ◌≤◌}
use mathlib.Core.Path.{◌≡◌, ap, ◌∙◌}
use mathlib.Core.List.{List}
use native.Mathlib.Omega.{arith}
use Rattle.format.specs.Lookup.{within}
use Rattle.read_chunk.specs.Rows.{rows_among}
use Rattle.read_scan.proofs.gather_few.Goals as goal

same_rows_lem : (low high row : ℕ) (values : List ℕ) → low ≤ high → rows_among (within low (low + (high - low))) row values ≡ rows_among (within low high) row values
same_rows_lem low high row values ordered = let back : low + (high - low) ≡ high = omega arith in ap (λ (k : ℕ). rows_among (within low k) row values) back

pub returns : goal.returns
returns c = (c.gather_groups.ensures.0, c.gather_groups.ensures.1 ∙ same_rows_lem c.args.low c.args.high c.args.row _ c.if-high-low.false)
