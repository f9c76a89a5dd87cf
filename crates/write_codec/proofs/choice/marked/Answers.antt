-- `write_codec::choice::marked` meets its contract: a code that is neither 0 nor 1 is 2.
-- Assumes nothing.
use native.Mathlib.Omega.{arith}
use Rattle.write_codec.proofs.Choosing.{third}
use Rattle.write_codec.proofs.choice.marked.Goals as goal

pub returns-in-0 : goal.returns-in-0
returns-in-0 c = rw c.in-0.is

pub returns-in-1 : goal.returns-in-1
returns-in-1 c = rw c.in-1.is

pub returns-in_default : goal.returns-in_default
returns-in_default c = rw (third c.args.code (omega arith) (omega arith) c.requires)
