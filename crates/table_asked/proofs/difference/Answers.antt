-- `difference` meets its contract: before the first turn nothing was passed.
-- Assumes nothing.
use Rattle.compare_walk.proofs.Seeks.{starts}
use Rattle.table_asked.proofs.difference.Goals as goal

pub loop-w-init : goal.loop-w-init
loop-w-init c = rw c.begin-w.ensures (starts _ _ _ _)
