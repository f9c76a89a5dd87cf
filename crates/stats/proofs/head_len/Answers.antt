-- `stats::head_len` meets its contract: a head's length is the sum of its fields' lengths, ten bytes at most each.
-- Assumes nothing.
use Rattle.std.proofs.Common.{arith}
use Rattle.format.proofs.Varints.{spell_ten}
use Rattle.format.proofs.Spellings.{head_length}
use Rattle.stats.proofs.head_len.Goals as goal

pub overflow_add-result : goal.overflow_add-result
overflow_add-result c = omega (arith, spell_ten c.args.stats.minimum, spell_ten c.args.stats.gcd)

pub overflow_add-result-2 : goal.overflow_add-result-2
overflow_add-result-2 c = omega (arith, spell_ten c.args.stats.minimum, spell_ten c.args.stats.gcd, spell_ten c.count_of-count.result)

pub overflow_add-result-3 : goal.overflow_add-result-3
overflow_add-result-3 c =
    omega (arith, spell_ten c.args.stats.minimum, spell_ten c.args.stats.gcd, spell_ten c.count_of-count.result, spell_ten c.args.stats.rows)

pub returns : goal.returns
returns c = rw (head_length c.args.stats, ← c.count_of-count.ensures) (omega arith)
