-- Two columns with their tables and bytes, made up or opened: a row that only one window has differs.
--     lacks_left, lacks_right
-- Assumes nothing.
use Prim.Native.Nat.{ℕ, ◌/◌, ◌≤◌, ◌<◌}
use mathlib.Core.Path.{◌≡◌, refl}
use mathlib.Core.Bool.{Bool, true, false}
use mathlib.Core.Logic.{inl, inr}
use mathlib.Core.List.{List, []}
use borrow.Author.Tests.{lt-ltb, le-ltb}
use lib.ListN.{length}
use Rattle.format.specs.declared.Block.{Block}
use Rattle.format.specs.declared.Column.{Column}
use Rattle.format.specs.Comparing.{equal_answers}
use Rattle.format.specs.Outcome.{Outcome, Outcome.refusal, ◌>>◌, demand}
use Rattle.format.specs.Reading.{column_row, block_at, fits, packed_of, asked_as, value_at, row_in, row_at}
use Rattle.format.proofs.Rows.{ValueOr14, value_or_14}

-- an answer that is not 12
abbrev NotAbsent : Outcome ℕ → Type 0
NotAbsent o = (equal_answers (refusal 12 []) o ≡ false) × (equal_answers o (refusal 12 []) ≡ false)

not_absent : (test : Bool) (r : ℕ) (o : Outcome ℕ) → ValueOr14 r o → NotAbsent (demand test 13 [] >> o)
not_absent false r o h = (refl, refl)
not_absent true r o (inl (v, e)) = rw e (refl, refl)
not_absent true r o (inr e) = rw e (refl, refl)

module _ (col : Column) (t : List Block) (s : List ℕ) (r : ℕ) where
  absent : col.window.rows ≤ r → row_at col t s r ≡ refusal 12 []
  unfolding row_in
  absent over = rw (le-ltb r col.window.rows over)

  present : r < col.window.rows → NotAbsent (row_at col t s r)
  unfolding row_in
  present inside =
      let b = block_at t (column_row col r / 512) in
      rw (lt-ltb r col.window.rows inside)
      (not_absent (fits col (length t) b s (column_row col r)) r (asked_as r (value_at col b s (column_row col r))) (value_or_14 col.codec col b r (column_row col r) (packed_of col b s (column_row col r))))

module _ (left : Column) (ltable : List Block) (lbytes : List ℕ) (right : Column) (rtable : List Block) (rbytes : List ℕ) (r : ℕ) where
  pub lacks_left : left.window.rows ≤ r → r < right.window.rows → equal_answers (row_at left ltable lbytes r) (row_at right rtable rbytes r) ≡ false
  lacks_left over inside = rw (absent left ltable lbytes r over) (present right rtable rbytes r inside).0

  pub lacks_right : r < left.window.rows → right.window.rows ≤ r → equal_answers (row_at left ltable lbytes r) (row_at right rtable rbytes r) ≡ false
  lacks_right inside over = rw (absent right rtable rbytes r over) (present left ltable lbytes r inside).1
