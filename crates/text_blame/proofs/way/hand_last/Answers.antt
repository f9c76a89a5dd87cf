-- `hand_last` meets its contract: the line is copied as it was written.
-- Assumes nothing.
use mathlib.Core.Path.{refl}
use Rattle.text_blame.proofs.Ways.{line_has_room, handed_last}
use Rattle.text_blame.proofs.way.hand_last.Goals as goal

pub put_text-end-requires : goal.put_text-end-requires
put_text-end-requires c = (line_has_room c.end_line-n.ensures.0 refl c.end_line-n.ensures.1 c.requires.hand_max_in_bounds).1

pub returns : goal.returns
returns c = handed_last refl c.requires.hand_max_in_bounds c.requires.stands c.requires.left_len_bound c.end_line-n.ensures c.put_text-end.ensures
