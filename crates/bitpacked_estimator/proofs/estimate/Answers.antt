-- `estimate` meets its contract: a head takes few bytes, and so few rows fill few.
-- Assumes nothing.
use native.Mathlib.Omega.{arith}
use Rattle.format.proofs.Widths.{width_most}
use Rattle.bitpacker.proofs.PackerLaws.{packed_few}
use Rattle.format.proofs.Spellings.{head_few}
use borrow.Author.Rules.{rules}
use Rattle.bitpacked_estimator.proofs.estimate.Goals as goal

pub packed_len-requires : goal.packed_len-requires
packed_len-requires c = (search rules, rw c.compute_num_bits-bits.ensures (width_most _))

pub overflow_add-result : goal.overflow_add-result
overflow_add-result c = omega (arith, head_few c.args.stats, packed_few c.compute_num_bits-bits.result c.args.stats.rows (search rules) (rw c.compute_num_bits-bits.ensures (width_most _)))

pub returns : goal.returns
returns c = rw (c.head_len.ensures, c.packed_len.ensures, c.compute_num_bits-bits.ensures, c.count_of.ensures)
