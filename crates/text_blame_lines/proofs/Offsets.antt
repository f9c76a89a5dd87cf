-- The text of an offset, by the test.
--     text_same, text_differs      bytes that are the same; and that differ
-- Assumes nothing.
use Prim.Native.Nat.{ℕ}
use mathlib.Core.Path.{◌≡◌}
use mathlib.Core.Bool.{true, false}
use mathlib.Core.List.{List, [], ◌++◌}
use lib.Dec.{eqb}
use lib.ListN.{get_or}
use Rattle.format.specs.declared.Column.{Column}
use Rattle.byte_part.specs.Bytes.{part_of}
use Rattle.text_column.specs.Own.{own_row}
use Rattle.text_blame_bytes.specs.Owners.{owners_found}
use Rattle.text_blame_lines.specs.Bytes.{byte_line, owners_text, text_at}

module _ (col : Column) (s : List ℕ) (against : Column) (t : List ℕ) (i : ℕ) where
  pub text_same : eqb (get_or s i 0) (get_or t i 0) ≡ true → text_at col s against t i ≡ []
  unfolding text_at
  text_same e = rw e

  pub text_differs : eqb (get_or s i 0) (get_or t i 0) ≡ false
      → text_at col s against t i ≡ byte_line i (part_of s col i) ++ owners_text (own_row col s) (own_row against t) (owners_found col s i)
  unfolding text_at
  text_differs e = rw e
