-- `replay_recording::eight_at` meets its contract: two numbers of four bytes.
-- Assumes nothing.
use native.Mathlib.Omega.{arith}
use Rattle.replay_recording.proofs.Numbers.{number_none, number_eight}
use Rattle.replay_recording.proofs.eight_at.Goals as goal

pub returns-then-long-lt8 : goal.returns-then-long-lt8
returns-then-long-lt8 c = number_none 8 c.args.recording.now c.args.at (omega (arith, c.if-long-lt8.true))

pub returns-then-long-at : goal.returns-then-long-at
returns-then-long-at c = number_none 8 c.args.recording.now c.args.at (omega (arith, c.if-long-lt8.false, c.if-long-at.true))

pub returns : goal.returns
returns c = rw (c.four_at-low.ensures, c.four_at-high.ensures) (number_eight c.args.recording.now c.args.at (omega (arith, c.if-long-lt8.false, c.if-long-at.false)))
