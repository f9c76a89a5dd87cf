-- `judge` meets its contract: each test is the rule's.
-- Assumes nothing.
use borrow.Author.Tests.{eq-eqb, ne_eqb}
use Rattle.format.specs.Checking.{judged_head}
use Rattle.check_verdict.proofs.head.judge.Goals as goal

pub returns-then-column-stats : goal.returns-then-column-stats
unfolding judged_head
returns-then-column-stats c = rw (ne_eqb _ _ c.if-column-stats.true)

pub returns-then-column-stats-2 : goal.returns-then-column-stats-2
unfolding judged_head
returns-then-column-stats-2 c = rw (eq-eqb _ _ c.if-column-stats.false, ne_eqb _ _ c.if-column-stats-2.true)

pub returns-then-column-stats-3 : goal.returns-then-column-stats-3
unfolding judged_head
returns-then-column-stats-3 c = rw (eq-eqb _ _ c.if-column-stats.false, eq-eqb _ _ c.if-column-stats-2.false, ne_eqb _ _ c.if-column-stats-3.true)

pub returns : goal.returns
unfolding judged_head
returns c = rw (eq-eqb _ _ c.if-column-stats.false, eq-eqb _ _ c.if-column-stats-2.false, eq-eqb _ _ c.if-column-stats-3.false)
