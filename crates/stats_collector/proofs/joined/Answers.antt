-- `stats_collector::joined` meets its contract.
-- Assumes nothing.
use Prim.Native.Nat.{ℕ}
use mathlib.Core.Path.{ap, ◌∙◌}
use Rattle.format.specs.Stats.{gcd}
use Rattle.stats_collector.proofs.joined.Goals as goal

pub returns : goal.returns
returns c = (c.ready.ensures.0 ∙ c.gcd_of.ensures ∙ ap (λ (d : ℕ). gcd d c.args.g) c.apart.ensures, c.ready.ensures.1)
