-- `c_row::bitpacked` meets its contract: the row's place, its number and its multiple, each with its tests, are those of the definition.
-- Assumes nothing.
use borrow.Author.Tests.{not-false}
use Rattle.c_row.proofs.Rows.{packed_row}
use Rattle.c_row.proofs.bitpacked.Goals as goal

pub returns : goal.returns
returns c e =
    packed_row _ _ (c.place_of-at.ensures (not-false _ c.if-not-at.false)) c.requires (c.packed_at-multiple.ensures (not-false _ c.if-not-multiple.false)) (c.raised.ensures e)
