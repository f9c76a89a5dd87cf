-- `write_rest` meets its contract: residuals and entries, and the length of the entries behind them.
-- Assumes nothing.
use Rattle.format.proofs.Stores.{wrote_then}
use Rattle.blockwise_estimator.proofs.write_rest.Goals as goal

pub returns : goal.returns
returns c = wrote_then c.write_blocks-end.ensures c.put_four.ensures
