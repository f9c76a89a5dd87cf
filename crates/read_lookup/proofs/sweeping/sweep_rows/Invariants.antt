use Prim.Native.Nat.{◌-◌, ◌≤◌}
use mathlib.Core.Path.{◌≡◌}
use lib.ListN.{length}
use Rattle.format.specs.Lookup.{within}
use Rattle.format.specs.Reading.{row_in}
use Rattle.read_lookup.specs.Sweeps.{Gathered}
use Rattle.read_lookup.proofs.sweeping.sweep_rows.Given as goal

abbrev pub invariant-loop-at : goal.invariant-loop-at
invariant-loop-at l = Gathered (within l.low l.high) (row_in l.column l.blocks l.block l.bytes) l.first l.at 0 l.n l.initial.list l.list × (l.first ≤ l.at) × (l.at ≤ l.end) × (length l.list ≡ length l.initial.list) × (l.n ≤ l.at - l.first)

abbrev pub decreases-loop-at : goal.decreases-loop-at
decreases-loop-at l = l.end - l.at
