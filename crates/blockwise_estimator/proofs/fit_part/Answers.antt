-- `fit_part` meets its contract: a part of the values, normalised, is that part of the normalised values.
-- Assumes nothing.
use Prim.Native.Nat.{ℕ}
use mathlib.Core.Path.{◌≡◌}
use mathlib.Core.List.{List, map}
use lib.ListN.{length, take, drop}
use Rattle.format.specs.Typed.{stored_as}
use Rattle.blockwise_estimator.specs.declared.Fit.{Fit}
use Rattle.blockwise_estimator.specs.Writer.{normal, Fitted}
use Rattle.blockwise_estimator.proofs.Blocks.{part_map}
use Rattle.blockwise_estimator.proofs.fit_part.Goals as goal

-- a loaded block, fitted
fitted : (f : ℕ → ℕ) (at n : ℕ) (values loaded rows : List ℕ) (fit : Fit) → loaded ≡ map f (take n (drop at values)) → Fitted loaded rows fit → Fitted (take n (drop at (map f values))) rows fit
fitted f at n values loaded rows fit e h = rw (← part_map f at n values, ← e) h

pub returns : goal.returns
returns c = fitted (normal c.args.minimum c.args.gcd) c.args.at (length c.args.block.now) (stored_as c.args.kind c.args.values.now) _ _ _ c.load.ensures c.fit_block.ensures
