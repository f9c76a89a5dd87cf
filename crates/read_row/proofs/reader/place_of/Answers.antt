-- `read_row::reader::place_of` meets its contract: each codec's numbers, as the definition has them.
-- Assumes nothing.
use Rattle.format.specs.Reading.{place_in}
use Rattle.read_row.proofs.reader.place_of.Goals as goal

pub returns-in-Bitpacked : goal.returns-in-Bitpacked
unfolding place_in
returns-in-Bitpacked c = rw (c.in-Bitpacked.is, c.wide.ensures, c.compute_num_bits.ensures)

pub returns-in-Linear : goal.returns-in-Linear
unfolding place_in
returns-in-Linear c = rw (c.in-Linear.is, c.wide-in-Linear.ensures)

pub returns-in-Blockwise : goal.returns-in-Blockwise
unfolding place_in
returns-in-Blockwise c = rw (c.in-Blockwise.is, c.split.ensures.1)
