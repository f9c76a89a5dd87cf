-- `read_chunk::copy` meets its contract: a part of the list is written as a whole.
-- Assumes nothing.
use native.Mathlib.Omega.{arith}
use Rattle.read_chunk.proofs.Copies.{part_sets}
use Rattle.read_chunk.proofs.copy.Goals as goal

pub returns : goal.returns
returns c = part_sets c.args.at _ c.args.out.now _ c.args.values.now c.copy_from_slice.ensures.after (omega arith) (omega arith)
