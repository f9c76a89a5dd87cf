-- `write_codec::put` meets its contract: each codec's body is that of its number.
-- Assumes nothing.
use Rattle.write_codec.proofs.Sizes.{bodies}
use Rattle.write_codec.proofs.writer.put.Goals as goal

pub put_linear-requires : goal.put_linear-requires
put_linear-requires c = record { describes = c.requires.describes; fits = rw c.in-Linear.is at c.requires.apt_codec }

pub returns-in-Bitpacked : goal.returns-in-Bitpacked
returns-in-Bitpacked c = rw (c.in-Bitpacked.is, (bodies c.requires.describes).0) c.put_bitpacked.ensures

pub returns-in-Linear : goal.returns-in-Linear
returns-in-Linear c = rw (c.in-Linear.is, (bodies c.requires.describes).1) c.put_linear.ensures

pub returns-in-Blockwise : goal.returns-in-Blockwise
returns-in-Blockwise c = rw (c.in-Blockwise.is, (bodies c.requires.describes).2) c.put_blockwise.ensures
