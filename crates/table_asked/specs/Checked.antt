-- What checking a column promises: the verdict on what opening found, and the table as opening leaves it, whatever the verdict.
-- Assumes nothing.
use Rattle.format.specs.declared.Mismatch.{Mismatch}
use Rattle.std.specs.Prelude.{ℕ, ◌≡◌, List, length, Result}
use Rattle.format.specs.declared.Block.{Block}
use Rattle.format.specs.declared.Kind.{Kind}
use Rattle.format.specs.Checking.{checked}
use Rattle.format.specs.Opening.{Loaded, table_in}
use Rattle.format.specs.Outcome.{Outcome, stored}
use Rattle.format.specs.Refusals.{checked_meaning}
use Rattle.format.specs.Sheets.{opened_under}
use Rattle.format.specs.Typed.{stored_as}

-- checking some bytes, whose opening found o, against a list
pub record CheckedAs (o : Outcome Loaded) (s vs : List ℕ) (r : Result (Unit {0}) Mismatch) (before after : List Block) : Type 0 where
  pub answer : checked_meaning r ≡ checked o s vs
  pub table : after ≡ stored (table_in o) before

-- `check` under a sheet
abbrev pub ChecksAs : (sheet : ℕ) (s vs : List ℕ) → Result (Unit {0}) Mismatch → (before after : List Block) → Type 0
ChecksAs sheet s vs r before after = CheckedAs (opened_under sheet s (length before)) s vs r before after

-- `check_as`: against the numbers that values of a kind are stored as
abbrev pub KindChecksAs : Kind → (sheet : ℕ) (s vs : List ℕ) → Result (Unit {0}) Mismatch → (before after : List Block) → Type 0
KindChecksAs kind sheet s vs r before after = ChecksAs sheet s (stored_as kind vs) r before after
