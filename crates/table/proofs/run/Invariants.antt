-- The walk is under way: what is left of it, joined with what it has decoded, is what the run decodes.
use Rattle.std.proofs.Common.{length}
use Rattle.format.specs.Reading.{row_at}
use Rattle.format.specs.Runs.{decoded}
use Rattle.read_walk.specs.Walks.{Kept.all_values, left, Walking}
use Rattle.table.proofs.run.Given as goal

abbrev pub invariant-loop-w : goal.invariant-loop-w
invariant-loop-w l =
    Walking all_values (row_at l.column l.table l.bytes) l.column.window
    (decoded (row_at l.column l.table l.bytes) l.column.window.rows l.first (length l.initial.out)) l.initial.out l.w l.out

abbrev pub decreases-loop-w : goal.decreases-loop-w
decreases-loop-w l = left l.w
