-- `estimate` meets its contract: head and line take few bytes, and so few rows fill few.
-- Assumes nothing.
use native.Mathlib.Omega.{arith}
use Rattle.bitpacker.proofs.PackerLaws.{packed_few}
use Rattle.format.proofs.Spellings.{head_few, line_few}
use borrow.Author.Rules.{rules}
use Rattle.linear_estimator.proofs.estimate.Goals as goal

pub overflow_add-result : goal.overflow_add-result
overflow_add-result c = omega (arith, head_few c.args.stats, line_few c.args.fit.line)

pub overflow_add-result-2 : goal.overflow_add-result-2
overflow_add-result-2 c = omega (arith, head_few c.args.stats, line_few c.args.fit.line)

pub overflow_add-result-3 : goal.overflow_add-result-3
overflow_add-result-3 c = omega (arith, head_few c.args.stats, line_few c.args.fit.line, packed_few c.args.fit.bits c.args.stats.rows (search rules) c.requires.1)
