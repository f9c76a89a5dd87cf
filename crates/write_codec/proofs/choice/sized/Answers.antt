-- `write_codec::choice::sized` meets its contract: each codec's estimate is its size in the choice.
-- Assumes nothing.
use native.Mathlib.Omega.{arith}
use Rattle.stats.proofs.Described.{sound_of}
use Rattle.format.specs.Typed.{stored_as}
use Rattle.write_codec.proofs.Sizes.{sized_0, sized_2}
use Rattle.write_codec.proofs.choice.sized.Goals as goal

pub estimate-size-requires : goal.estimate-size-requires
estimate-size-requires c = sound_of c.requires.describes

pub returns-in-0 : goal.returns-in-0
returns-in-0 c = sized_0 c.args.stats (stored_as c.args.kind c.args.values.now) _ _ c.in-0.is c.estimate-size.ensures

pub returns-in-1 : goal.returns-in-1
returns-in-1 c = rw c.in-1.is c.sized_linear.ensures

pub returns-in_default : goal.returns-in_default
returns-in_default c = sized_2 c.args.stats (stored_as c.args.kind c.args.values.now) _ _ (omega arith) (omega arith) c.requires.code_bound c.estimate-size-in_default.ensures
