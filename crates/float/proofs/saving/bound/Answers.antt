-- `saving::bound` meets its contract: the table is the definition's, and no entry of it is a NaN's, by one test over the whole table.
-- Assumes nothing.
use Rattle.std.proofs.Common.{ℕ, Bool, not, T, sym, refl, subst, rules}
use lib.Ieee.{binary32, nan_bits}
use Rattle.format.specs.Saving.{power_bounds}
use Rattle.format.proofs.Savings.{every_at}
use Rattle.float.proofs.saving.bound.Goals as goal

-- some bits are a number's
number : ℕ → Bool
number b = not (nan_bits binary32 b)

pub float_from_bits-result : goal.float_from_bits-result
unfolding power_bounds nan_bits number
float_from_bits-result c = subst T (sym (every_at (λ k bits. number bits) power_bounds refl c.args.k (search rules))) tt

pub returns : goal.returns
unfolding power_bounds
returns c = refl
