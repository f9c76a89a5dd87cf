-- `column_line` meets its contract: the codec, the rows and the bounds, one behind the other.
-- Assumes nothing.
use Rattle.format.specs.Listing.{head_line}
use Rattle.format.proofs.Stores.{wrote_then}
use Rattle.text_list.specs.Beginning.{column_line}
use Rattle.text_list.proofs.lines.column_line.Goals as goal

pub returns-clause-wrote : goal.returns-clause-wrote
unfolding column_line head_line
returns-clause-wrote c = rw (← c.code_of.ensures) (wrote_then c.put_named-rows.ensures (wrote_then c.put_named-min.ensures c.put_bounds.ensures.wrote))
