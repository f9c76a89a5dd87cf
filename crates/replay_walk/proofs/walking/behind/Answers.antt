-- `replay_walk::walking::behind` meets its contract: rows of the same record, a record whose rows are missing, or the next record.
-- Assumes nothing.
use Rattle.std.proofs.Common.{arith}
use Rattle.replay_walk.proofs.Walks.{ended, left_over, goes_later, stops_short, next_record, left_some, left_later, left_next}
use Rattle.replay_walk.proofs.walking.behind.Goals as goal

pub returns-then-at-w : goal.returns-then-at-w
returns-then-at-w c = record { by_index = (λ read values f run same. goes_later f c.args.size c.requires.2 values run _ same c.if-at-w.true c.requires.4); result_bound = left_later c.args.w c.requires.0 c.requires.3 c.args.size c.requires.1 c.requires.2 }

pub returns-then-n-item : goal.returns-then-n-item
returns-then-n-item c = record { by_index = (λ read values f run same. ended read _ _ c.differs.result c.differs.ensures.0 c.differs.ensures.1 (stops_short f c.args.size c.requires.2 values run _ same c.if-at-w.false c.if-n-item.true)); result_bound = left_over c.differs.result c.differs.ensures.0 _ (left_some c.args.w c.requires.0 c.requires.3) }

pub returns : goal.returns
returns c = record { by_index = (λ read values f run same. c.go_on.ensures.by_index read (next_record f c.args.size c.requires.2 values run _ same c.if-at-w.false (omega arith))); result_bound = left_next c.args.w c.requires.0 c.requires.3 _ c.go_on.ensures.result_bound }
