-- What a call that lends memory promises: its answer, and what the memory holds afterwards, are those of one outcome.
-- Assumes nothing.
use Rattle.format.specs.declared.Refusal.{Refusal}
use Rattle.format.specs.declared.Column.{Column}
use Rattle.format.specs.Refusals.{answered_by}
use Rattle.std.specs.Prelude.{ℕ, ◌≡◌, List, Option, Result}
use Rattle.format.specs.declared.Block.{Block}
use Rattle.format.specs.Outcome.{Outcome, how_many, stored}
use Rattle.format.specs.Opening.{Loaded, column_in, table_in}

-- of a call that stores a list and says how many entries it has
pub record StoresAs (o : Outcome (List ℕ)) (said : Outcome ℕ) (before after : List ℕ) : Type 0 where
  pub answer : said ≡ how_many o
  pub list : after ≡ stored o before

-- the same by the call's answer: of writing, of looking rows up, of a run
abbrev pub StoredAs : Outcome (List ℕ) → Result ℕ Refusal → (before after : List ℕ) → Type 0
StoredAs o r before after = StoresAs o (answered_by r) before after

-- of opening: the blocks stand in the table
pub record OpenedAs (o : Outcome Loaded) (r : Result (Column × Option ℕ) Refusal) (before after : List Block) : Type 0 where
  pub answer : answered_by r ≡ column_in o
  pub table : after ≡ stored (table_in o) before
