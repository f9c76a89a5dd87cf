-- `put_bounds` meets its contract: three names with their numbers, and behind them the line feed.
-- Assumes nothing.
use Rattle.format.proofs.Stores.{wrote_then}
use Rattle.text_list.proofs.lines.put_bounds.Goals as goal

pub returns-clause-wrote : goal.returns-clause-wrote
returns-clause-wrote c = wrote_then c.put_named-a.ensures (wrote_then c.put_named-b.ensures (wrote_then c.put_named-c.ensures c.put_byte.ensures))
