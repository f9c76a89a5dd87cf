-- `table::open_under` meets its contract: `open_plain_under` decides, and no rows are filled in where it refuses.
-- Assumes nothing.
use Rattle.table.proofs.Opening.{fillable, opens}
use Rattle.table.proofs.open_under.Goals as goal

pub fill-requires : goal.fill-requires
fill-requires c = fillable _ _ _ c.open_plain_under-answer.result c.open_plain_under-answer.ensures _ c.table_rows-rows.ensures

pub returns : goal.returns
returns c = opens _ _ _ c.open_plain_under-answer.result c.open_plain_under-answer.ensures _ c.table_rows-rows.ensures _ _ c.fill.ensures
