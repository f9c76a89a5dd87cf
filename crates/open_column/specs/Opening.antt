-- Which rows have blocks in the table, and what goes there for an answer.
-- Assumes nothing.
use Rattle.std.specs.Prelude.{ℕ, ◌≡◌, List, Option}
use Rattle.format.specs.declared.Block.{Block}
use Rattle.format.specs.declared.Codec.{Codec}
use Rattle.format.specs.declared.Codec.TheVariants.{Bitpacked, Linear, Blockwise}
use Rattle.format.specs.declared.Column.{Column}
use Rattle.format.specs.Opening.{Loaded, column_in, table_in}
use Rattle.format.specs.Outcome.{Outcome, Outcome.value, Outcome.refusal}

-- the rows that have blocks
abbrev pub blocked : Codec → (rows : ℕ) → ℕ
blocked Bitpacked rows = 0
blocked (Linear l w) rows = 0
blocked Blockwise rows = rows

-- the rows of an opened column whose blocks stand in the table
abbrev pub tabled : Outcome (Column × Option ℕ) → ℕ
tabled (value a) = blocked a.0.codec a.0.rows
tabled (refusal number also) = 0

-- opening finds the column of an answer, if it has one
abbrev pub Finds : (found : Outcome Loaded) (answer : Outcome (Column × Option ℕ)) → Type 0
Finds found answer = (a : Column × (Option ℕ)) → answer ≡ value a → column_in found ≡ value a

-- the blocks for its table: none for a refusal
abbrev pub table_for : (found : Outcome Loaded) (answer : Outcome (Column × Option ℕ)) → Outcome (List Block)
table_for found (value a) = table_in found
table_for found (refusal number also) = refusal number also
