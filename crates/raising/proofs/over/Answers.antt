-- `raising::over` meets its contract, by the top bits.
-- Assumes nothing.
use native.Mathlib.Omega.{arith}
use Rattle.raising.proofs.Raises.{over_is}
use Rattle.raising.proofs.over.Goals as goal

pub returns : goal.returns
returns c = λ h. over_is _ _ _ c.requires (omega arith) c.sub.ensures h
