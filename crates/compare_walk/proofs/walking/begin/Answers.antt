-- `compare_walk::walking::begin` meets its contract: the end is that of the longer window.
-- Assumes nothing.
use mathlib.Core.Path.{ap, ◌∙◌}
use native.Mathlib.Omega.{arith}
use Rattle.compare_walk.specs.Walking.{onwards}
use Rattle.compare_walk.proofs.walking.begin.Goals as goal

pub returns-then-left-right : goal.returns-then-left-right
returns-then-left-right c = c.go_on.ensures ∙ ap (onwards _) (omega (arith, c.if-left-right.true))

pub returns : goal.returns
returns c = c.go_on-2.ensures ∙ ap (onwards _) (omega (arith, c.if-left-right.false))
