-- `replay_recording::record_at` meets its contract: six numbers.
-- Assumes nothing.
use Rattle.replay_recording.proofs.Numbers.{record_is}
use Rattle.replay_recording.proofs.record_at.Goals as goal

pub returns : goal.returns
returns c = record_is _ _ _ c.eight_at.ensures c.eight_at-2.ensures c.four_at.ensures c.four_at-2.ensures c.four_at-3.ensures c.four_at-4.ensures
