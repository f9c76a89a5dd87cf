-- `place_of` meets its contract. The invariant is `Placed`; behind the last part the place stays what it is.
-- Assumes nothing.
use mathlib.Core.Path.{sym, ◌∙◌}
use native.Mathlib.Omega.{arith}
use Rattle.text_explain.proofs.Placing.{placed-starts, placed_more, placed_past}
use Rattle.text_explain.proofs.place_of.Goals as goal

pub loop-init : goal.loop-init
loop-init c = placed-starts _ _

pub returns-in_default : goal.returns-in_default
returns-in_default c = placed_past c.args.bytes.now c.args.column c.loop.counter c.args.number c.loop.place (sym c.next_part.ensures ∙ c.in_default.is) c.loop.invariant (omega arith)

pub loop-preserved : goal.loop-preserved
loop-preserved c = (placed_more c.args.bytes.now c.args.column c.loop.counter c.loop.place _ _ (sym c.next_part.ensures ∙ c.in-Some.is) c.loop.invariant).placed
