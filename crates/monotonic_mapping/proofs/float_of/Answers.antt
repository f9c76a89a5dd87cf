-- `monotonic_mapping::float_of` meets its contract: each arm is the definition's by the sign bit.
-- Assumes nothing.
use mathlib.Core.Path.{sym}
use Rattle.format.proofs.Mappings.{float_high, float_low}
use Rattle.monotonic_mapping.proofs.float_of.Goals as goal

pub returns-then-stored-lt-SIGN : goal.returns-then-stored-lt-SIGN
returns-then-stored-lt-SIGN c = sym (float_low _ c.if-stored-lt-SIGN.true)

pub returns-else-stored-lt-SIGN : goal.returns-else-stored-lt-SIGN
returns-else-stored-lt-SIGN c = sym (float_high _ c.if-stored-lt-SIGN.false)
