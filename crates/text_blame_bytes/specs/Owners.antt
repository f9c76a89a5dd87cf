-- The rows that own a bit of a byte of a column that a program opened.
-- Assumes nothing.
use Rattle.std.specs.Prelude.{ℕ, ◌+◌, ◌≤◌, ◌<◌, ◌≡◌, List, Option, Some, None}
use Rattle.format.specs.declared.Column.{Column}
use Rattle.format.specs.Listing.{opened_here}
use Rattle.format.specs.Outcome.{Outcome, Outcome.value, Outcome.refusal}
use Rattle.byte_owner.specs.Bytes.{rows_of}
use Rattle.text_column.specs.declared.own.Own.{Own}
use Rattle.text_column.specs.Own.{table_of, Owned}

-- the rows that were found to own a bit of a byte
abbrev pub owners_in : Outcome (Option (ℕ × ℕ)) → Option (ℕ × ℕ)
owners_in (value o) = o
owners_in (refusal number also) = None

-- those of the byte at an offset, with the table that a program's opening finds in the bytes
abbrev pub owners_found : Column → (s : List ℕ) (i : ℕ) → Option (ℕ × ℕ)
owners_found col s i = owners_in (rows_of s col (table_of (opened_here s)) i)

-- at most eight rows: the first is not behind the last, and at most seven before it
abbrev pub Few : Option (ℕ × ℕ) → Type 0
Few (Some (first, last)) = (first ≤ last) × (last < first + 8)
Few None = Unit {0}

-- the same column, with a pass over its blocks wherever that stands
pub record Stays (s : List ℕ) (own r : Own) : Type 0 where
  pub column : r.column ≡ own.column
  pub owned : Owned s own.column r.pass
