-- `stats_collector::stays` meets its contract: the gcd with 1 is 1, and that with a multiple is the gcd before it.
-- Assumes nothing.
use Rattle.stats_collector.proofs.Multiples.{stays_one, stays_multiple}
use Rattle.stats_collector.proofs.stays.Goals as goal

pub returns-then-g-eq1 : goal.returns-then-g-eq1
returns-then-g-eq1 c told = stays_one _ _ c.if-g-eq1.true

pub returns : goal.returns
returns c told = stays_multiple _ _ _ c.apart.ensures (c.divides.ensures told)
