-- `check` meets its contract: numbers are stored as they are.
-- Assumes nothing.
use Rattle.table_asked.proofs.Tables.{numbers-checked}
use Rattle.table_asked.proofs.check.Goals as goal

pub returns : goal.returns
returns c = numbers-checked c.check_as.ensures
