-- The comparison of two columns, each opened of its bytes and seen through its window.
-- Assumes nothing.
use Rattle.std.specs.Prelude.{ℕ, max, List}
use Rattle.format.specs.declared.Column.{Column}
use Rattle.format.specs.Comparing.{compared}
use Rattle.text_column.specs.Own.{own_row}

-- by the answers of the windows' rows, over the rows of the window that has more
abbrev pub compared_through : (c d : Column) (s t : List ℕ) → List ℕ
compared_through c d s t = compared (own_row c s) (own_row d t) (max c.window.rows d.window.rows)
