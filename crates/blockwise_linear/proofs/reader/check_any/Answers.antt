-- `blockwise_linear::reader::check_any` meets its contract, by what the loop keeps.
-- Assumes nothing.
use Rattle.std.proofs.Common.{rules, sym, arith}
use Rattle.blockwise_linear.proofs.Passes.{step_less, checking_more, checking_refused, checking_ends}
use Rattle.blockwise_linear.proofs.reader.check_any.Goals as goal

pub returns-in_err-step : goal.returns-in_err-step
returns-in_err-step c = let refused = sym (checking_refused c.loop-c.invariant _ _ (sym c.in_err-step.ensures) c.loop-c-test.true) in search rules

pub loop-c-smaller : goal.loop-c-smaller
loop-c-smaller c = omega (arith, step_less _ _ _ (sym c.in_ok-step.ensures))

pub loop-c-preserved : goal.loop-c-preserved
loop-c-preserved c = rw c.or-longer.ensures (checking_more c.loop-c.invariant _ (sym c.in_ok-step.ensures) c.loop-c-test.true)

pub returns : goal.returns
returns c = sym (checking_ends c.loop-c.invariant c.loop-c-test.false)
