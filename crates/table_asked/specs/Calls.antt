-- What the calls promise that lend nothing to be changed.
-- Assumes nothing.
use Rattle.format.specs.declared.Report.{Report}
use Rattle.format.specs.declared.Refusal.{Refusal}
use Rattle.format.specs.Refusals.{answered_by}
use Rattle.std.specs.Prelude.{ℕ, ◌≡◌, List, Option, Result}
use Rattle.format.specs.declared.Block.{Block}
use Rattle.format.specs.declared.Column.{Column}
use Rattle.format.specs.Reading.{row_at}
use Rattle.format.specs.Replaying.{replayed}
use Rattle.byte_owner.specs.Bytes.{rows_of}
use Rattle.compare_walk.specs.declared.Difference.{Difference}
use Rattle.compare_walk.specs.Differences.{columns_differ, difference_meaning}

-- `replay`
abbrev pub ReplaysAs : Column → (t : List Block) (s recording : List ℕ) → Result Report Refusal → Type 0
ReplaysAs column t s recording r = answered_by r ≡ replayed (row_at column t s) column.window.rows recording

-- `difference`
abbrev pub DiffersAs : (left : Column) (ltable : List Block) (lbytes : List ℕ) (right : Column) (rtable : List Block) (rbytes : List ℕ) (from : ℕ) → Option Difference → Type 0
DiffersAs left ltable lbytes right rtable rbytes from r = difference_meaning r ≡ columns_differ left ltable lbytes right rtable rbytes from

-- `rows_at`
abbrev pub RowsAs : Column → (t : List Block) (s : List ℕ) (offset : ℕ) → (Result (Option (ℕ × ℕ)) Refusal) → Type 0
RowsAs column t s offset r = answered_by r ≡ rows_of s column t offset
