use Rattle.read_row.proofs.reader.has_block.Goals as goal

pub returns-in-Blockwise : goal.returns-in-Blockwise
returns-in-Blockwise c = rw (c.in-Blockwise.is, c.split.ensures.0)
