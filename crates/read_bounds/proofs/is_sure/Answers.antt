-- `read_bounds::is_sure` meets its contract.
-- Assumes nothing.
use Rattle.read_bounds.proofs.Sures.{full_sure, line_sure, block_sure}
use Rattle.read_bounds.proofs.is_sure.Goals as goal

pub returns-in-Bitpacked : goal.returns-in-Bitpacked
returns-in-Bitpacked c = λ e. full_sure _ _ _ _ c.in-Bitpacked.is (c.is_full.ensures e)

pub returns-in-Linear : goal.returns-in-Linear
returns-in-Linear c = λ e. line_sure c.args.column c.args.block c.args.first c.args.size c.in-Linear.is c.requires.0 (rw c.wide.ensures at (c.is_near.ensures e))

pub returns-in-Blockwise : goal.returns-in-Blockwise
returns-in-Blockwise c = λ e. block_sure c.args.column c.args.block c.args.first c.args.size c.in-Blockwise.is c.requires.3 (c.is_near-in-Blockwise.ensures e)
