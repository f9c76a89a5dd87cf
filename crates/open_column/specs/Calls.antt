-- What each call promises of its answer. Nothing is lent that a call may change.
-- Assumes nothing.
use Rattle.format.specs.declared.Refusal.{Refusal}
use Rattle.std.specs.Prelude.{ℕ, ◌≡◌, List, Option, Result}
use Rattle.format.specs.declared.Column.{Column}
use Rattle.format.specs.Opening.{opened, column_in}
use Rattle.format.specs.Refusals.{narrowed_meaning, answered_by}
use Rattle.format.specs.Sheets.{opened_under}
use Rattle.format.specs.Windows.{narrowing}

-- `open_plain` with room for so many blocks
abbrev pub PlainAs : (s : List ℕ) (room : ℕ) → Result (Column × Option ℕ) Refusal → Type 0
PlainAs s room r = answered_by r ≡ column_in (opened s room)

-- `open_plain_under`: the same under a sheet
abbrev pub PlainUnderAs : (sheet : ℕ) (s : List ℕ) (room : ℕ) → Result (Column × Option ℕ) Refusal → Type 0
PlainUnderAs sheet s room r = answered_by r ≡ column_in (opened_under sheet s room)

-- `narrow`
abbrev pub NarrowedAs : Column → (first count : ℕ) → Result Column (Refusal × Column) → Type 0
NarrowedAs column first count r = narrowed_meaning r ≡ narrowing column first count
