-- What the verdict asks for.
-- Assumes nothing.
use Rattle.format.specs.declared.Refusal.{Refusal}
use Rattle.format.specs.declared.Column.{Column}
use Rattle.format.specs.Refusals.{answered_by}
use Rattle.std.specs.Prelude.{ℕ, ◌≡◌, List, Option, Result}
use Rattle.format.specs.Opening.{column_in}
use Rattle.format.specs.Sheets.{opened_under}

-- opening some bytes answers so, under some sheet and with some room
pub record FromOpening (s : List ℕ) (answer : Result (Column × Option ℕ) Refusal) : Type 0 where
  pub sheet : ℕ
  pub room : ℕ
  pub is : answered_by answer ≡ column_in (opened_under sheet s room)
