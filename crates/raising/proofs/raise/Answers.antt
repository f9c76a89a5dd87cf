-- `raising::raise` meets its contract: with no number above the limit all were raised, else `first_beyond` tells how many.
-- Assumes nothing.
use native.Mathlib.Omega.{arith}
use Rattle.raising.specs.Raising.{itself}
use Rattle.raising.proofs.Filling.{raised_all, raised_up_to}
use Rattle.raising.proofs.raise.Goals as goal

pub returns-then-lift : goal.returns-then-lift
returns-then-lift c = raised_all itself c.args.minimum c.args.limit _ _ (omega arith) (λ i h. (c.slice_known-1.given i).fits) (omega (arith, c.lift.auto)) c.lift.ensures.0 c.lesser.result (omega (arith, c.lesser.ensures)) (c.lift.ensures.1 c.if-lift.true)

pub returns : goal.returns
returns c = raised_up_to itself c.args.minimum c.args.limit _ _ (omega arith) (λ i h. (c.slice_known-1.given i).fits) (omega (arith, c.lift.auto)) c.lift.ensures.0 _ c.first_beyond.ensures
