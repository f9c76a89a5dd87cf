-- `compare_walk::equal::equal_at` meets its contract: both rows are read, and their answers compared.
-- Assumes nothing.
use mathlib.Core.Path.{refl, ◌∙◌}
use Rattle.compare_walk.proofs.equal.equal_at.Goals as goal

pub returns : goal.returns
returns c = c.equal_answers.ensures ∙ rw (c.row_of.ensures, c.row_of-2.ensures) refl
