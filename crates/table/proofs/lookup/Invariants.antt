-- The walk is under way: what is left of it, joined with what it has found, is what the lookup finds.
use Rattle.std.proofs.Common.{length}
use Rattle.format.specs.Lookup.{looked_up, within}
use Rattle.format.specs.Reading.{row_at}
use Rattle.read_walk.specs.Walks.{Kept.rows_of, left, Walking}
use Rattle.table.proofs.lookup.Given as goal

abbrev pub invariant-loop-w : goal.invariant-loop-w
invariant-loop-w l =
    Walking (rows_of (within l.low l.high)) (row_at l.column l.table l.bytes) l.column.window
    (looked_up (row_at l.column l.table l.bytes) l.column.window.rows (within l.low l.high) l.first l.end (length l.initial.found)) l.initial.found l.w l.found

abbrev pub decreases-loop-w : goal.decreases-loop-w
decreases-loop-w l = left l.w
