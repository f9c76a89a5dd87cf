-- `hand_first` meets its contract: the line is copied as it was written.
-- Assumes nothing.
use mathlib.Core.Path.{refl}
use Rattle.text_list.proofs.Ways.{handed_first}
use Rattle.text_list.proofs.way.hand_first.Goals as goal

pub returns : goal.returns
returns c = handed_first refl c.requires c.begin-begun.ensures (rw c.line_of-n.ensures at c.put_text-end.ensures) c.way_of.ensures
