-- `blockwise_linear::reader::check` meets its contract, by what the loop keeps.
-- Assumes nothing.
use Rattle.std.proofs.Common.{sym, arith}
use borrow.Author.Tests.{not-false}
use Rattle.blockwise_linear.proofs.Passes.{step_less, checking_more, checking_ends}
use Rattle.blockwise_linear.proofs.reader.check.Goals as goal

pub loop-c-smaller : goal.loop-c-smaller
loop-c-smaller c = omega (arith, step_less _ _ _ (c.step-p.ensures (not-false _ c.if-not-p.false)))

pub loop-c-preserved : goal.loop-c-preserved
loop-c-preserved c = checking_more c.loop-c.invariant _ (c.step-p.ensures (not-false _ c.if-not-p.false)) c.loop-c-test.true

pub returns : goal.returns
returns c = sym (checking_ends c.loop-c.invariant c.loop-c-test.false)
