-- `own::row` meets its contract: all fits together at each row of an opened column's window.
-- Assumes nothing.
use Rattle.text_column.proofs.Owns.{own_fits}
use Rattle.text_column.proofs.own.row.Goals as goal

pub row_fitting-requires-clause-fitting : goal.row_fitting-requires-clause-fitting
row_fitting-requires-clause-fitting c = own_fits c.requires
