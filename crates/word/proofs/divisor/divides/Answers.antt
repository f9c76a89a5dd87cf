-- A number that the product with another is, is a multiple.
use Rattle.std.proofs.Common.{eqb-true}
use Rattle.word.proofs.Multiples.{told_multiple}
use Rattle.word.proofs.divisor.divides.Goals as goal

pub returns : goal.returns
returns c told = told_multiple _ _ _ (eqb-true _ _ told)
