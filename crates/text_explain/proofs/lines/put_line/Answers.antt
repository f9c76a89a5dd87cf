-- `put_line` meets its contract: four fields, one behind the other.
-- Assumes nothing.
use native.Mathlib.Omega.{arith}
use Rattle.format.proofs.Stores.{wrote_then}
use Rattle.text_explain.specs.Explained.{part_line}
use Rattle.text_explain.proofs.lines.put_line.Goals as goal

pub returns : goal.returns
unfolding part_line
returns c =
    record {
      wrote = wrote_then c.put_place-place.ensures.wrote (wrote_then c.put_name-words.ensures.wrote
          (wrote_then (rw (c.said_of-said.ensures, c.area_bits.ensures, c.shape_of.ensures) at c.put_said-behind.ensures.wrote) c.put_byte.ensures));
      upper_bound = omega arith;
    }
