-- `stats::gcd_of` meets its contract. The loop's invariant: the gcd of the two numbers is that of the two given ones.
-- Assumes nothing.
use mathlib.Core.Path.{sym, ◌∙◌}
use native.Mathlib.Nat.{mod-lt}
use Rattle.format.proofs.Gcds.{gcd_zero, gcd_turn}
use Rattle.format.proofs.Tests.{positive}
use Rattle.stats_collector.proofs.gcd_of.Goals as goal

pub nonzero_rem-rest : goal.nonzero_rem-rest
nonzero_rem-rest c = positive _ c.loop-small-test.true

pub loop-small-smaller : goal.loop-small-smaller
loop-small-smaller c = mod-lt _ (positive _ c.loop-small-test.true)

pub loop-small-preserved : goal.loop-small-preserved
loop-small-preserved c = sym (gcd_turn _ _ (positive _ c.loop-small-test.true)) ∙ c.loop-small.invariant

pub returns : goal.returns
returns c = sym (gcd_zero _) ∙ (rw c.loop-small-test.false at c.loop-small.invariant)
