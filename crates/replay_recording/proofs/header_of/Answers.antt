-- `replay_recording::header_of` meets its contract: four numbers.
-- Assumes nothing.
use Rattle.replay_recording.proofs.Numbers.{header_is}
use Rattle.replay_recording.proofs.header_of.Goals as goal

pub returns : goal.returns
returns c = header_is _ c.four_at.ensures c.four_at-2.ensures c.four_at-3.ensures c.four_at-4.ensures
