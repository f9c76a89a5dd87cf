-- `compare_walk::equal::equal_rows` meets its contract, by the invariant `Passing`.
-- Assumes nothing.
use mathlib.Core.Path.{sym, ◌∙◌}
use Rattle.compare_walk.proofs.Equals.{pass_more, pass_stops, pass_ends}
use Rattle.compare_walk.proofs.equal.equal_rows.Goals as goal

pub returns-then-not-equal_at : goal.returns-then-not-equal_at
returns-then-not-equal_at c = pass_stops _ _ _ _ c.loop-i.invariant (sym c.equal_at.ensures ∙ c.if-not-equal_at.true)

pub loop-i-preserved : goal.loop-i-preserved
loop-i-preserved c = pass_more _ _ _ _ c.loop-i.invariant c.loop-i-test.true (sym c.equal_at.ensures ∙ c.if-not-equal_at.false)

pub returns : goal.returns
returns c = pass_ends _ _ _ _ c.loop-i.invariant c.loop-i-test.false
