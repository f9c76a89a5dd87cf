-- `hand_bytes` meets its contract: the text of offsets is that of a chunk.
-- Assumes nothing.
use Prim.Native.Nat.{◌<◌}
use native.Mathlib.Omega.{arith}
use lib.ListN.{length}
use Rattle.text_blame.proofs.Ways.{handed_bytes, looked_most}
use Rattle.text_blame.proofs.way.hand_bytes.Goals as goal

pub overflow_add-result : goal.overflow_add-result
overflow_add-result c =
    omega (
      arith,
      (let more : c.args.at.from < length c.args.left.now = omega arith in more),
      looked_most c.args.at c.args.left.now c.args.right.now _ c.fill_lines-took.result c.fill_lines-took.ensures.0,
    )

pub returns : goal.returns
returns c = handed_bytes c.requires.hand_max_in_bounds c.requires.stands (omega arith) c.fill_lines-took.ensures
