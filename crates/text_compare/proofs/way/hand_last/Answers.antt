-- `hand_last` meets its contract: the line is copied as it was written.
-- Assumes nothing.
use mathlib.Core.Path.{refl}
use Rattle.text_compare.proofs.Ways.{handed_last}
use Rattle.text_compare.proofs.way.hand_last.Goals as goal

pub returns : goal.returns
returns c = handed_last refl c.requires.hand_max_in_bounds c.requires.stands c.requires.at_bound c.end_line-n.ensures.0 c.end_line-n.ensures.1 c.put_text-end.ensures
