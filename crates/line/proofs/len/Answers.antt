-- `line::len` meets its contract: a line's length is the sum of its two fields' lengths, ten bytes at most each.
-- Assumes nothing.
use Rattle.std.proofs.Common.{arith}
use Rattle.format.proofs.Varints.{spell_ten}
use Rattle.format.proofs.Spellings.{line_length_lem}
use Rattle.line.proofs.len.Goals as goal

pub overflow_add-result : goal.overflow_add-result
overflow_add-result c = omega (arith, spell_ten c.args.l.slope, spell_ten c.args.l.intercept)

pub returns : goal.returns
returns c = omega (arith, line_length_lem c.args.l)
