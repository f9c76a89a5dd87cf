-- `replay_recording::listed_at` meets its contract: a place is an index.
-- Assumes nothing.
use mathlib.Core.Path.{◌∙◌}
use Rattle.replay_recording.proofs.Numbers.{listed_is}
use Rattle.replay_recording.proofs.listed_at.Goals as goal

pub returns : goal.returns
returns c = c.four_at.ensures ∙ listed_is _ _ _
