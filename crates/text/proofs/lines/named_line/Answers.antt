-- `named_line` meets its contract: the name with its number, and behind them the line feed.
-- Assumes nothing.
use Rattle.format.specs.Listing.{named_line}
use Rattle.format.proofs.Stores.{wrote_then}
use Rattle.text.proofs.lines.named_line.Goals as goal

pub returns-clause-wrote : goal.returns-clause-wrote
unfolding named_line
returns-clause-wrote c = wrote_then c.put_named-at.ensures c.put_byte.ensures
