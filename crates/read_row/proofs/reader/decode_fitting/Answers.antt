-- `read_row::reader::decode_fitting` meets its contract: what fits together is what the codec asks for.
-- Assumes nothing.
use Rattle.read_row.proofs.Fitting.{bitpacked_reads, linear_reads, blocks_read}
use borrow.Author.Rules.{rules}
use Rattle.read_row.proofs.reader.decode_fitting.Goals as goal

pub get_range-requires : goal.get_range-requires
get_range-requires c = record { readable = bitpacked_reads _ _ _ _ c.requires.fitting c.in-Bitpacked.is; out_bound = search rules }

pub get_range-requires-in-Linear : goal.get_range-requires-in-Linear
get_range-requires-in-Linear c = record { readable = linear_reads _ _ _ _ c.requires.fitting _ _ c.in-Linear.is; out_bound = search rules }

pub get_range-requires-in-Blockwise : goal.get_range-requires-in-Blockwise
get_range-requires-in-Blockwise c = record { readable = blocks_read _ _ _ _ c.requires.fitting c.in-Blockwise.is; out_bound = search rules }

pub returns-in-Bitpacked : goal.returns-in-Bitpacked
returns-in-Bitpacked c = record { answer = c.get_range.ensures _ }

pub returns-in-Linear : goal.returns-in-Linear
returns-in-Linear c = record { answer = c.get_range-in-Linear.ensures _ }

pub returns-in-Blockwise : goal.returns-in-Blockwise
returns-in-Blockwise c = record { answer = c.get_range-in-Blockwise.ensures }
