use Prim.Native.Nat.{◌+◌, ◌≤◌, max}
use mathlib.Core.Path.{◌≡◌}
use Rattle.text_column.specs.Holding.{Holds}
use Rattle.text_column.specs.Own.{own_row}
use Rattle.text_compare.proofs.Filling.{Pairing}
use Rattle.text_compare.proofs.fill_lines.Given as goal

abbrev pub invariant-loop-r : goal.invariant-loop-r
invariant-loop-r l =
    Pairing (own_row l.column l.lbytes) (own_row l.against l.rbytes) (max l.column.window.rows l.against.window.rows) l.fn.from.0 l.initial.out l.out l.r l.done.lines l.done.bytes
    × (l.rows ≡ max l.column.window.rows l.against.window.rows)
    × Holds l.lbytes l.column l.lheld l.lvalues
    × Holds l.rbytes l.against l.rheld l.rvalues
    × (l.lheld.first.0 ≤ l.r)
    × (l.rheld.first.0 ≤ l.r)
    × (l.fn.from.0 + l.looked ≡ l.r)
