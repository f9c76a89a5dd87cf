-- `read_row::reader::value_of` meets its contract: what fits together is what the codec asks for.
-- Assumes nothing.
use Rattle.read_row.proofs.Fitting.{linear_reads, blocks_read}
use Rattle.read_row.proofs.reader.value_of.Goals as goal

pub get_val-requires-in-Linear : goal.get_val-requires-in-Linear
get_val-requires-in-Linear c = linear_reads _ _ _ _ c.requires _ _ c.in-Linear.is

pub get_val-requires-in-Blockwise : goal.get_val-requires-in-Blockwise
get_val-requires-in-Blockwise c = blocks_read _ _ _ _ c.requires c.in-Blockwise.is

pub returns-in-Bitpacked : goal.returns-in-Bitpacked
returns-in-Bitpacked c = c.get_val.ensures _

pub returns-in-Linear : goal.returns-in-Linear
returns-in-Linear c = c.get_val-in-Linear.ensures _
