use Prim.Native.Nat.{◌+◌, ◌-◌, ◌*◌, ◌≤◌}
use mathlib.Core.Path.{◌≡◌}
use lib.ListN.{length}
use Rattle.text_column.specs.Own.{own_row}
use Rattle.text_blame_lines.specs.Bytes.{row_text}
use Rattle.text_blame_lines.proofs.RowTexts.{Written}
use Rattle.text_blame_lines.proofs.rows.put_rows.Given as goal

abbrev pub invariant-loop-row : goal.invariant-loop-row
invariant-loop-row l =
    Written (row_text (own_row l.left.column l.lbytes) (own_row l.right.column l.rbytes)) l.initial.out l.at l.first (l.row - l.first) l.out l.end
    × (l.end ≤ l.at + 57 * (l.row - l.first)) × (length l.out ≡ length l.initial.out)
