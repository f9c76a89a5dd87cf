-- `monotonic_mapping::stored_signed` meets its contract: the laws on its two arms.
-- Assumes nothing.
use Rattle.monotonic_mapping.proofs.Steps.{up, climb}
use Rattle.monotonic_mapping.proofs.stored_signed.Goals as goal

pub returns-then-v-ge0 : goal.returns-then-v-ge0
returns-then-v-ge0 c = (up _ c.ranges.v c.if-v-ge0.true).result

pub returns-else-v-ge0 : goal.returns-else-v-ge0
returns-else-v-ge0 c = (climb _ c.ranges.v c.if-v-ge0.false).result
