-- `c_parts::fill` meets its contract, by the invariant `Filling`.
-- Assumes nothing.
use Rattle.std.proofs.Common.{sym, ◌∙◌}
use Rattle.c_parts.proofs.Filling.{filling_more, filling_done, filling_ends}
use Rattle.c_parts.proofs.fill.Goals as goal

pub returns-in_default : goal.returns-in_default
returns-in_default c = filling_done c.loop-parts.invariant (sym c.next_part.ensures ∙ c.in_default.is)

pub loop-parts-preserved : goal.loop-parts-preserved
loop-parts-preserved c =
    filling_more c.loop-parts.invariant _ _ c.loop-parts-test.true (sym c.next_part.ensures ∙ c.in-Some.is) c.put.ensures

pub returns-after-loop-parts : goal.returns-after-loop-parts
returns-after-loop-parts c = filling_ends c.loop-parts.invariant c.loop-parts-test.false
