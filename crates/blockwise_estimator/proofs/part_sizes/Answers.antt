-- `part_sizes` meets its contract: a fitted block's rows fill as many bytes as its width says, and its entry is its line and a byte.
-- Assumes nothing.
use mathlib.Core.Path.{refl}
use native.Mathlib.Omega.{arith}
use Rattle.format.proofs.Spellings.{line_few}
use Rattle.blockwise_estimator.proofs.Parts.{fit_of, part_long, fit_most, takes_of}
use Rattle.blockwise_estimator.proofs.part_sizes.Goals as goal

pub packed_len-area-requires : goal.packed_len-area-requires
packed_len-area-requires c = (omega (arith, c.requires.few), fit_most c.fit_part-fit.ensures)

pub overflow_add-result : goal.overflow_add-result
overflow_add-result c = omega (arith, line_few c.fit_part-fit.result.line)

pub returns : goal.returns
returns c = takes_of _ _ _ (part_long c.requires) (fit_of c.args.size _ _ _ _ refl c.requires.few c.fit_part-fit.ensures) c.packed_len-area.ensures c.len.ensures
