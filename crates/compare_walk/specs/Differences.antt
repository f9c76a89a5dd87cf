-- The first row from a given one on whose answers differ, over any two readings of rows.
-- Assumes nothing.
use Rattle.format.specs.Refusals.{answered_by}
use Rattle.std.specs.Prelude.{ℕ, ◌-◌, max, List, [], ◌∷◌, Option, Some, None}
use Rattle.format.specs.declared.Block.{Block}
use Rattle.format.specs.declared.Column.{Column}
use Rattle.format.specs.Comparing.{differing}
use Rattle.format.specs.Outcome.{Outcome}
use Rattle.format.specs.Reading.{row_at}
use Rattle.compare_walk.specs.declared.Difference.{Difference}

-- a row, with what each side answers there
pub record Pair : Type 0 where
  pub row : ℕ
  pub left : Outcome ℕ
  pub right : Outcome ℕ

-- the first of some rows, with both answers
abbrev pub first_of : (left right : ℕ → Outcome ℕ) → List ℕ → Option Pair
first_of left right [] = None
first_of left right (r ∷ rs) = Some (record { row = r; left = left r; right = right r })

-- the first of so many rows, from a given one on, whose answers differ
unfoldable pub first_difference : (left right : ℕ → Outcome ℕ) (rows from : ℕ) → Option Pair
first_difference left right rows from = first_of left right (differing left right from (rows - from))

-- of two opened columns with their tables and bytes: a row that only one window has is refused 12 by the other
abbrev pub columns_differ : Column → (ltable : List Block) (lbytes : List ℕ) → Column → (rtable : List Block) (rbytes : List ℕ) (from : ℕ) → Option Pair
columns_differ left ltable lbytes right rtable rbytes from =
    first_difference (row_at left ltable lbytes) (row_at right rtable rbytes) (max left.window.rows right.window.rows) from

-- what comparing found
abbrev pub difference_meaning : Option Difference → Option Pair
difference_meaning None = None
difference_meaning (Some d) = Some (record { row = d.row; left = answered_by d.left; right = answered_by d.right })
