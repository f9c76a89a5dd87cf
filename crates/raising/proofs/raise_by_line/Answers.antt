-- `raising::raise_by_line` meets its contract: with no height above the limit all were raised, else `first_beyond` tells how many.
-- Assumes nothing.
use Rattle.format.proofs.Words.{sub_below}
use native.Mathlib.Omega.{arith}
use Rattle.raising.specs.Raising.{above_line}
use Rattle.raising.proofs.Filling.{raised_all, raised_up_to}
use Rattle.raising.proofs.raise_by_line.Goals as goal

pub returns-then-lift_by_line : goal.returns-then-lift_by_line
returns-then-lift_by_line c = raised_all (above_line c.args.line c.args.from c.args.low) c.args.minimum c.args.limit _ _ (omega arith) (λ i h. sub_below _ _) (omega (arith, c.lift_by_line.auto)) c.lift_by_line.ensures.0 c.lesser.result (omega (arith, c.lesser.ensures)) (c.lift_by_line.ensures.1 c.if-lift_by_line.true)

pub returns : goal.returns
returns c = raised_up_to (above_line c.args.line c.args.from c.args.low) c.args.minimum c.args.limit _ _ (omega arith) (λ i h. sub_below _ _) (omega (arith, c.lift_by_line.auto)) c.lift_by_line.ensures.0 _ c.first_beyond.ensures
