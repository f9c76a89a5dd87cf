-- `bitpacker::fetch_short` meets its contract: past the end stands nothing, and near the end taking eight bytes takes all that are left.
-- Assumes nothing.
use mathlib.Core.Path.{sym, ◌∙◌}
use native.Mathlib.Omega.{arith}
use Rattle.format.proofs.Gathering.{bytes_num_past, bytes_num_short}
use Rattle.bitpacker.proofs.fetch_short.Goals as goal

pub returns-then-area-at : goal.returns-then-area-at
returns-then-area-at c = sym (bytes_num_past c.args.area.now c.args.at 8 c.if-area-at.true)

pub returns : goal.returns
returns c = c.gather.ensures ∙ bytes_num_short c.args.area.now c.args.at 8 (omega arith)
