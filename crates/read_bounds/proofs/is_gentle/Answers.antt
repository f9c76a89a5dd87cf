-- `read_bounds::is_gentle` meets its contract.
-- Assumes nothing.
use native.Mathlib.Omega.{arith}
use Rattle.read_bounds.proofs.Lines.{gentle}
use Rattle.read_bounds.proofs.is_gentle.Goals as goal

pub returns : goal.returns
returns c = λ e. gentle _ _ _ _ (omega arith) c.sub.ensures c.lesser.ensures e
