-- `replay_walk::walking::met_all` meets its contract: each value is compared in its turn.
-- Assumes nothing.
use borrow.Author.Tests.{not-true, not-false}
use Rattle.replay_walk.proofs.Meets.{meet_more, meet_stops, meet_ends}
use Rattle.replay_walk.proofs.walking.met_all.Goals as goal

pub returns-then-not-met : goal.returns-then-not-met
returns-then-not-met c = record { meets = (λ rest. meet_stops _ _ _ _ _ _ c.loop-i.invariant c.loop-i-test.true c.met_one-met.result.same c.met_one-met.result.n c.met_one-met.ensures.by_index (not-true _ c.if-not-met.true) rest); n_le_many = c.met_one-met.ensures.n_le_many }

pub loop-i-preserved : goal.loop-i-preserved
loop-i-preserved c = meet_more _ _ _ _ _ _ c.loop-i.invariant c.loop-i-test.true c.met_one-met.result.same c.met_one-met.result.n c.met_one-met.ensures.by_index (not-false _ c.if-not-met.false) c.met_one-met.ensures.n_le_many

pub returns : goal.returns
returns c = record { meets = (λ rest. meet_ends _ _ _ _ _ _ c.loop-i.invariant c.loop-i-test.false rest); n_le_many = c.loop-i.invariant.few }
