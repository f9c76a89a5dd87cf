-- `raising::height_at` meets its contract.
-- Assumes nothing.
use Rattle.raising.proofs.Raises.{line_height}
use Rattle.raising.proofs.height_at.Goals as goal

pub returns : goal.returns
returns c = λ l x low small base product. line_height l x low _ _ _ _ _ small base product c.add.ensures c.add-2.ensures
