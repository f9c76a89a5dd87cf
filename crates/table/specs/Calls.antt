-- What each call promises: its answer, and what it is lent before and after.
-- Assumes nothing.
use Rattle.format.specs.declared.Refusal.{Refusal}
use Rattle.format.specs.Refusals.{answered_by}
use Rattle.std.specs.Prelude.{ℕ, ◌≡◌, List, length, Option, Result}
use Rattle.format.specs.declared.Block.{Block}
use Rattle.format.specs.declared.Column.{Column}
use Rattle.format.specs.Calls.{StoredAs, OpenedAs}
use Rattle.format.specs.Lookup.{looked_up, within}
use Rattle.format.specs.Opening.{opened}
use Rattle.format.specs.Reading.{block_at, row_at}
use Rattle.format.specs.Runs.{decoded}
use Rattle.format.specs.Sheets.{opened_under}

-- `block_at`
abbrev pub BlockAs : (t : List Block) (k : ℕ) → Block → Type 0
BlockAs t k r = r ≡ block_at t k

-- `open`
abbrev pub OpensAs : (s : List ℕ) → Result (Column × Option ℕ) Refusal → (t t' : List Block) → Type 0
OpensAs s r t t' = OpenedAs (opened s (length t)) r t t'

-- `open_under`
abbrev pub OpensUnderAs : (sheet : ℕ) (s : List ℕ) → Result (Column × Option ℕ) Refusal → (t t' : List Block) → Type 0
OpensUnderAs sheet s r t t' = OpenedAs (opened_under sheet s (length t)) r t t'

-- `row`
abbrev pub RowAs : Column → (t : List Block) (s : List ℕ) (row : ℕ) → Result ℕ Refusal → Type 0
RowAs column t s row r = answered_by r ≡ row_at column t s row

-- `lookup`
abbrev pub LooksAs : Column → (t : List Block) (s : List ℕ) (low high first end : ℕ) → Result ℕ Refusal → (found found' : List ℕ) → Type 0
LooksAs column t s low high first end r found found' = StoredAs (looked_up (row_at column t s) column.window.rows (within low high) first end (length found)) r found found'

-- `run`
abbrev pub RunsAs : Column → (t : List Block) (s : List ℕ) (first : ℕ) → Result ℕ Refusal → (out out' : List ℕ) → Type 0
RunsAs column t s first r out out' = StoredAs (decoded (row_at column t s) column.window.rows first (length out)) r out out'
