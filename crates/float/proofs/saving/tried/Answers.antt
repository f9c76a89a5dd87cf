-- `saving::tried` meets its contract: each arm returns what is picked where the bound's test is as the arm found it.
-- Assumes nothing.
use Rattle.float.proofs.saving.tried.Goals as goal

pub returns-then-bound-x : goal.returns-then-bound-x
returns-then-bound-x c = rw (← c.bound.ensures, c.if-bound-x.true)

pub returns-else-bound-x : goal.returns-else-bound-x
returns-else-bound-x c = rw (← c.bound.ensures, c.if-bound-x.false)
