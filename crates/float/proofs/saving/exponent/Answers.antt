-- `saving::exponent` meets its contract: the bounds from k on give what the whole table gives.
-- Assumes nothing.
use native.Mathlib.Omega.{arith}
use Rattle.float.proofs.Searching.{search_start, search_turn, search_end}
use Rattle.float.proofs.saving.exponent.Goals as goal

pub loop-k-init : goal.loop-k-init
loop-k-init c = search_start _ _ c.ranges.gcd.fits c.nearest-x.ensures

pub loop-k-preserved : goal.loop-k-preserved
loop-k-preserved c = search_turn _ _ _ _ _ c.loop-k.invariant (omega arith) c.tried-last.ensures

pub returns : goal.returns
returns c = search_end _ _ _ _ c.loop-k.invariant (omega arith)
