-- `put_pair` meets its contract: six fields, one behind the other.
-- Assumes nothing.
use Rattle.format.specs.Comparing.{pair_line}
use Rattle.format.proofs.Stores.{wrote_then}
use Rattle.text_compare.proofs.lines.put_pair.Goals as goal

pub returns-clause-wrote : goal.returns-clause-wrote
unfolding pair_line
returns-clause-wrote c =
    wrote_then c.put_decimal-number.ensures (wrote_then c.put_byte-first.ensures (wrote_then c.put_side-between.ensures.wrote
    (wrote_then c.put_byte-second.ensures (wrote_then c.put_side-end.ensures.wrote c.put_byte.ensures))))
