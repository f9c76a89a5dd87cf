-- `bitpacker::put_part` meets its contract: one entry more stands in the list.
-- Assumes nothing.
use Rattle.bitpacker.proofs.RunLaws.{unpacked_more, group_row}
use Rattle.bitpacker.proofs.put_part.Goals as goal

pub returns : goal.returns
returns c first place so = unpacked_more so c.requires.1 (c.part.ensures _ (group_row c.args.width c.args.at first c.args.i c.args.k place))
