use mathlib.Core.Path.{◌≡◌}
use Rattle.format.specs.Stats.{gcd}
use Rattle.stats_collector.proofs.gcd_of.Given as goal

abbrev pub invariant-loop-small : goal.invariant-loop-small
invariant-loop-small l = gcd l.large l.small ≡ gcd l.a l.b

abbrev pub decreases-loop-small : goal.decreases-loop-small
decreases-loop-small l = l.small
