-- `table::open` meets its contract: opening is opening under sheet 1.
-- Assumes nothing.
use Rattle.table.proofs.Opening.{first_sheet}
use Rattle.table.proofs.open.Goals as goal

pub returns : goal.returns
returns c = first_sheet _ _ _ _ _ c.open_under.ensures
