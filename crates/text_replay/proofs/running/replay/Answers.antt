-- `running::replay` meets its contract: each turn has the block of its chunk at hand, and leaves the replay under way.
-- Assumes nothing.
use Rattle.replay_walk.proofs.Walks.{is_on_hand, is_over}
use Rattle.text_replay.proofs.Runs.{running_starts, running_again}
use Rattle.text_replay.proofs.running.replay.Goals as goal

pub loop-w-init : goal.loop-w-init
loop-w-init c = running_starts c.requires c.begin-own.ensures (c.begin-w.ensures _)

pub reach-own-requires : goal.reach-own-requires
reach-own-requires c = c.loop-w.invariant.owned

pub step-w-requires : goal.step-w-requires
step-w-requires c = (is_on_hand _ _ _ _ c.loop-w.invariant.replay c.loop-w-test.true).going

pub loop-w-smaller : goal.loop-w-smaller
loop-w-smaller c = c.step-w.ensures.result_bound

pub loop-w-preserved : goal.loop-w-preserved
loop-w-preserved c = running_again c.loop-w.invariant c.loop-w-test.true c.reach-own.ensures c.block_count-blocks.ensures c.step-w.ensures.keeps

pub returns : goal.returns
returns c = is_over _ _ _ _ c.loop-w.invariant.replay c.loop-w-test.false
