-- `read_bounds::is_counted` meets its contract.
-- Assumes nothing.
use mathlib.Core.Logic.{inl, inr}
use Rattle.read_bounds.proofs.Sures.{never}
use Rattle.read_bounds.proofs.is_counted.Goals as goal

pub returns-in-Bitpacked : goal.returns-in-Bitpacked
returns-in-Bitpacked c = λ e. inl c.in-Bitpacked.is

pub returns-in-Linear : goal.returns-in-Linear
returns-in-Linear c = λ e. never e

pub returns-in-Blockwise : goal.returns-in-Blockwise
returns-in-Blockwise c = λ e. inr c.in-Blockwise.is
