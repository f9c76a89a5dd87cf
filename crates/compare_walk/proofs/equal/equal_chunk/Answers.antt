-- `compare_walk::equal::equal_chunk` meets its contract: by the values where both sides decode as a whole, else row by row.
-- Assumes nothing.
use native.Mathlib.Omega.{arith}
use Rattle.read_chunk.proofs.Chunks.{whole_run}
use Rattle.compare_walk.specs.Equal.{side_row}
use Rattle.compare_walk.proofs.Equals.{values_equal}
use Rattle.compare_walk.proofs.equal.equal_chunk.Goals as goal

pub equal_rows-requires : goal.equal_rows-requires
equal_rows-requires c = omega (arith, c.requires.3)

pub equal_rows-requires-in-Err-also : goal.equal_rows-requires-in-Err-also
equal_rows-requires-in-Err-also c = omega (arith, c.requires.3)

pub returns : goal.returns
returns c =
    values_equal (side_row c.args.left c.args.lbytes.now) (side_row c.args.right c.args.rbytes.now) c.args.first _ _ _ _ c.requires.2
    (whole_run c.decode-decoded.ensures c.in_default.is) (whole_run c.decode-also.ensures c.in_default-also.is) c.equal_values.ensures
