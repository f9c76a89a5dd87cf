-- `read_bounds::is_full` meets its contract.
-- Assumes nothing.
use native.Mathlib.Omega.{arith}
use lib.Pow.{pow_pos}
use Rattle.read_bounds.proofs.Lines.{full}
use Rattle.read_bounds.proofs.Sures.{never}
use Rattle.read_bounds.proofs.is_full.Goals as goal

pub returns-then-bits-gt56 : goal.returns-then-bits-gt56
returns-then-bits-gt56 c = λ e. never e

pub overflow_sub-result : goal.overflow_sub-result
overflow_sub-result c = omega (arith, c.power.ensures.0, pow_pos c.wide-bits.result)

pub returns : goal.returns
returns c = λ e. full _ _ _ _ c.power.ensures.0 c.wide-bits.ensures c.compute_num_bits.ensures e
