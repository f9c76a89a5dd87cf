-- `pair_line` meets its contract: two names with their numbers, and behind them the line feed.
-- Assumes nothing.
use Rattle.format.specs.Listing.{named_line}
use Rattle.format.proofs.Stores.{wrote_then}
use Rattle.text.proofs.lines.pair_line.Goals as goal

pub returns-clause-wrote : goal.returns-clause-wrote
unfolding named_line
returns-clause-wrote c = wrote_then c.put_named-behind.ensures (wrote_then c.put_named-end.ensures c.put_byte.ensures)
