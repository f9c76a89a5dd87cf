use mathlib.Core.Path.{◌≡◌}
use Rattle.format.specs.Typed.{stored_as}
use Rattle.stats_collector.specs.Rests.{Rest}
use Rattle.stats_collector.proofs.run.Given as goal

abbrev pub invariant-loop-i : goal.invariant-loop-i
invariant-loop-i l = Rest (stored_as l.kind l.values) l.first l.g.by l.seen × (l.seen.next ≡ l.i)
