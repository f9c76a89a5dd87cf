-- `hand_parts` meets its contract: the lines of parts are those of a chunk.
-- Assumes nothing.
use Prim.Native.Nat.{◌^◌, ◌<◌}
use native.Mathlib.Omega.{arith}
use lib.ListN.{length}
use Rattle.format.specs.Parts.{parts_of}
use Rattle.text_explain.proofs.Placing.{parts_few}
use Rattle.text_explain.proofs.Ways.{handed_parts, way_ends, way_goes, taken}
use Rattle.text_explain.proofs.way.hand_parts.Goals as goal

pub returns-then-told-eq0 : goal.returns-then-told-eq0
returns-then-told-eq0 c = handed_parts c.args.bytes.now c.requires c.fill_lines-told.ensures.0 c.fill_lines-told.ensures.1.0 c.fill_lines-told.ensures.1.1 (way_ends _ _ _ _ c.fill_lines-told.ensures.0 (omega (arith, c.if-told-eq0.true)))

pub overflow_add-result : goal.overflow_add-result
overflow_add-result c =
    omega (
      arith,
      taken c.args.bytes.now c.args.column _ c.args.from c.fill_lines-told.result c.fill_lines-told.ensures.0 c.if-told-eq0.false,
      (let few-here : length (parts_of c.args.bytes.now c.args.column) < 2 ^ 40 = parts_few c.args.bytes.now c.args.column (omega arith) in few-here),
    )

pub returns : goal.returns
returns c = handed_parts c.args.bytes.now c.requires c.fill_lines-told.ensures.0 c.fill_lines-told.ensures.1.0 c.fill_lines-told.ensures.1.1 (way_goes _ _ _ _ c.fill_lines-told.ensures.0 c.if-told-eq0.false)
