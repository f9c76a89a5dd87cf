-- Rows found so far, gathered in a list.
-- Assumes nothing.
use Rattle.format.specs.declared.Refusal.{Refusal}
use Rattle.std.specs.Prelude.{ℕ, ◌+◌, ◌-◌, ◌≤◌, ◌<◌, ◌≡◌, Bool, true, false, List, ◌++◌, length, take, Result, Ok, Err}
use Rattle.format.specs.declared.Codec.{Codec}
use Rattle.format.specs.declared.Codec.TheVariants.{Bitpacked, Linear, Blockwise}
use Rattle.format.specs.Outcome.{Outcome, Outcome.value}
use Rattle.format.specs.Refusals.{numbered}
use Rattle.format.specs.Runs.{read_run}
use Rattle.read_chunk.specs.Rows.{rows_among}

-- whether a codec's columns have no blocks
abbrev pub blockless : Codec → Bool
blockless Bitpacked = true
blockless (Linear l w) = true
blockless Blockwise = false

-- the rows from first to another read as some values, m of which pass a test, and those rows stand behind the first n entries of a list
pub record Gathered (test : ℕ → Bool) (read : ℕ → Outcome ℕ) (first to n m : ℕ) (old new : List ℕ) : Type 0 where
  pub values : List ℕ
  pub run : read_run read first (to - first) ≡ value values
  pub count : m ≡ length (rows_among test first values)
  pub front : take (n + m) new ≡ take n old ++ rows_among test first values

-- how far a sweep over the rows from first to end came, or its first refused row
abbrev pub SweptIs : (test : ℕ → Bool) (read : ℕ → Outcome ℕ) (first end n : ℕ) → Result (ℕ × ℕ) Refusal → (old new : List ℕ) → Type 0
SweptIs test read first end n (Ok (at, m)) old new = (first < at) × (at ≤ end) × Gathered test read first at n m old new
SweptIs test read first end n (Err x) old new = read_run read first (end - first) ≡ numbered x

-- a sweep over the rows from first to end found this, behind the first n entries of a list
pub record SweptAs (test : ℕ → Bool) (read : ℕ → Outcome ℕ) (first end n : ℕ) (r : Result (ℕ × ℕ) Refusal) (old new : List ℕ) : Type 0 where
  pub told : SweptIs test read first end n r old new
