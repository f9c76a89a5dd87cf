-- `c_row::eight` meets its contract: eight bytes, each its power of 256.
-- Assumes nothing.
use Rattle.c_row.proofs.Numbers.{eight_bytes}
use Rattle.c_row.proofs.eight.Goals as goal

pub returns : goal.returns
returns c = eight_bytes c.args.s.now c.args.at c.requires
