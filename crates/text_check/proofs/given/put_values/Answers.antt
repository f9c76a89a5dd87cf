-- `text_check::given::put_values` meets its contract: each value is the number of its eight bytes.
-- Assumes nothing.
use native.Mathlib.Omega.{arith}
use Rattle.format.specs.Word.{AllBelow}
use Rattle.text_check.proofs.Inputs.{putting_more, putting_ends}
use Rattle.text_check.proofs.given.put_values.Goals as goal

pub loop-i-preserved : goal.loop-i-preserved
loop-i-preserved c =
    let file = c.args.file in
    let bytes : AllBelow 256 file.now = λ i h. (c.type_inv.file i).fits in
    putting_more c.loop-i.invariant bytes (omega arith) c.get.ensures

pub returns : goal.returns
returns c = putting_ends c.loop-i.invariant (omega arith)
