-- `bitpacker::get` meets its contract: the number at an index starts at the index times the width.
-- Assumes nothing.
use mathlib.Core.Path.{refl}
use Rattle.format.proofs.Widths.{row_place}
use Rattle.bitpacker.proofs.get.Goals as goal

pub overflow_mul-index : goal.overflow_mul-index
overflow_mul-index c = record { fits = row_place c.args.width c.args.index c.requires c.ranges.index.fits }

pub returns : goal.returns
returns c = c.get_at.ensures _ refl
