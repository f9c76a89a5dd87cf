-- A pass over as many blocks as are counted, not behind the block asked for.
-- Assumes nothing.
use Rattle.std.proofs.Common.{◌≡◌, ◌+◌, ◌≤◌, min}
use Rattle.format.specs.Bodies.{block_count}
use Rattle.blockwise_linear.specs.Passing.{Passing}
use Rattle.blockwise_linear.proofs.passing.pass_to.Given as goal

abbrev pub invariant-loop : goal.invariant-loop
invariant-loop l = (l.end ≡ min (l.k + 1) (block_count l.rows)) × Passing l.bytes l.rows l.p × (l.p.count ≡ l.counter) × (l.counter ≤ l.end)
