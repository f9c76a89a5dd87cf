-- `monotonic_mapping::stored_float` meets its contract: the mask is the one that the sign bit asks for.
-- Assumes nothing.
use Rattle.monotonic_mapping.proofs.Arms.{masked}
use Rattle.monotonic_mapping.proofs.stored_float.Goals as goal

pub returns : goal.returns
returns c = masked _ c.ranges.bits.fits c.sub-all.ensures
