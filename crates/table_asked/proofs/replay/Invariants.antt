-- The replay is under way: what is left of it, joined with the records that agree, is what the replay finds.
use Rattle.format.specs.Reading.{row_at}
use Rattle.replay_walk.specs.Walking.{left, Replaying}
use Rattle.table_asked.proofs.replay.Given as goal

abbrev pub invariant-loop-w : goal.invariant-loop-w
invariant-loop-w l = Replaying (row_at l.column l.table l.bytes) l.column.window.rows l.recording l.w

abbrev pub decreases-loop-w : goal.decreases-loop-w
decreases-loop-w l = left l.w
