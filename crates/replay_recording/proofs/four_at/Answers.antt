-- `replay_recording::four_at` meets its contract: four bytes, little end first; 0 where they leave the recording.
-- Assumes nothing.
use native.Mathlib.Omega.{arith}
use mathlib.Core.Path.{◌∙◌}
use Rattle.replay_recording.proofs.Numbers.{number_none, number_four}
use Rattle.replay_recording.proofs.four_at.Goals as goal

pub returns-then-long-lt4 : goal.returns-then-long-lt4
returns-then-long-lt4 c = number_none 4 c.args.recording.now c.args.at (omega (arith, c.if-long-lt4.true))

pub returns-then-long-at : goal.returns-then-long-at
returns-then-long-at c = number_none 4 c.args.recording.now c.args.at (omega (arith, c.if-long-lt4.false, c.if-long-at.true))

pub returns : goal.returns
returns c = c.joined.ensures ∙ number_four c.args.recording.now c.args.at (omega (arith, c.if-long-lt4.false, c.if-long-at.false))
