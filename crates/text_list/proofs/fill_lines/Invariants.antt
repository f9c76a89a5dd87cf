use Prim.Native.Nat.{◌+◌, ◌≤◌}
use mathlib.Core.Path.{◌≡◌}
use Rattle.format.specs.Listing.{row_line}
use Rattle.text_column.specs.Holding.{Holds}
use Rattle.text_column.specs.Own.{own_row}
use Rattle.text.proofs.Filling.{Filling}
use Rattle.text_list.specs.Chunk.{line_max}
use Rattle.text_list.proofs.fill_lines.Given as goal

abbrev pub invariant-loop-r : goal.invariant-loop-r
invariant-loop-r l =
    Filling (row_line (own_row l.column l.bytes)) line_max l.column.rows l.fn.from.0 l.initial.out l.out l.r l.filled.bytes × Holds l.bytes l.column l.held l.values
    × (l.held.first.0 ≤ l.r) × (l.fn.from.0 + l.filled.rows ≡ l.r)
