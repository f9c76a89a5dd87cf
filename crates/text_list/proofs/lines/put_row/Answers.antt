-- `put_row` meets its contract: four fields, one behind the other.
-- Assumes nothing.
use Rattle.format.specs.Listing.{row_line}
use Rattle.format.proofs.Stores.{wrote_then}
use Rattle.text_list.proofs.lines.put_row.Goals as goal

pub returns-clause-wrote : goal.returns-clause-wrote
unfolding row_line
returns-clause-wrote c = wrote_then c.put_decimal-number.ensures (wrote_then c.put_byte-space.ensures (wrote_then c.put_answer-end.ensures.wrote c.put_byte.ensures))
