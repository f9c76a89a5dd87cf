-- `write_codec::choice::is_met` meets its contract: a code that is neither 0 nor 1 is 2.
-- Assumes nothing.
use native.Mathlib.Omega.{arith}
use Rattle.write_codec.proofs.Choosing.{third}
use Rattle.write_codec.proofs.choice.is_met.Goals as goal

pub returns-in_default : goal.returns-in_default
returns-in_default c = rw (third c.args.code (omega arith) (omega arith) c.requires)
