-- `begin` meets its contract: the line of a left side that does not open, or what the right side comes to.
-- Assumes nothing.
use Rattle.text_compare.proofs.Beginnings.{begun_on}
use Rattle.text_compare.proofs.begin.Goals as goal

pub returns : goal.returns
returns c = begun_on _ _ c.open_plain-opened.ensures c.in-Ok.is c.begin_right.ensures
