-- `monotonic_mapping::signed_of` meets its contract: the laws on its two arms.
-- Assumes nothing.
use Rattle.monotonic_mapping.proofs.Steps.{descend, descend_high}
use Rattle.monotonic_mapping.proofs.signed_of.Goals as goal

pub returns-then-stored-ge-SIGN : goal.returns-then-stored-ge-SIGN
returns-then-stored-ge-SIGN c = descend_high _ c.if-stored-ge-SIGN.true c.ranges.stored.fits

pub returns-else-stored-ge-SIGN : goal.returns-else-stored-ge-SIGN
returns-else-stored-ge-SIGN c = (descend _ c.if-stored-ge-SIGN.false).result
