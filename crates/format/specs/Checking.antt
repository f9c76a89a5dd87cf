-- Checking a column from another writer against the list of values that it is to hold.
-- Assumes nothing.
use Rattle.std.specs.Prelude.{ℕ, suc, ◌+◌, ◌*◌, Bool, List, [], ◌∷◌, eqb, length, Option, Some, None}
use Rattle.format.specs.declared.Column.{Column}
use Rattle.format.specs.declared.ColumnStats.{ColumnStats}
use Rattle.format.specs.Outcome.{Outcome, Outcome.value, Outcome.refusal, pick}
use Rattle.format.specs.Stats.{stats_of}
use Rattle.format.specs.Opening.{Loaded}
use Rattle.format.specs.Reading.{row_at}
use Rattle.format.specs.Comparing.{equal_answers}

-- why a column is not passed
pub data Reason : Type 0 where
  unopened : (number : ℕ) → (also : List ℕ) → Reason
  counts : (column list : ℕ) → Reason
  unequal : (row : ℕ) → Reason
  minimum : Reason
  gcd : Reason
  maximum : Reason

-- the verdict
pub data Verdict : Type 0 where
  passed : Verdict
  failed : Reason → Verdict

-- the next test, unless this one fails: then its reason
abbrev pub or : (test : Bool) → Reason → Verdict → Verdict
or test reason next = pick test next (failed reason)

-- the first row, of those from r on, that does not read as its value in a list; a refused row does not
unfoldable pub first_unequal : (read : ℕ → Outcome ℕ) (r : ℕ) (vs : List ℕ) → Option ℕ
first_unequal read r [] = None
first_unequal read r (v ∷ vs) = pick (equal_answers (read r) (value v)) (first_unequal read (suc r) vs) (Some r)

-- that row as a verdict, or the next test
abbrev pub by_row : Option ℕ → Verdict → Verdict
by_row None next = next
by_row (Some r) next = failed (unequal r)

-- the head against the statistics of the list: minimum, gcd, maximum
unfoldable pub judged_head : Column → ColumnStats → Verdict
judged_head col s =
    or (eqb col.minimum s.minimum) minimum
    (or (eqb col.gcd s.gcd) gcd
    (or (eqb (col.minimum + col.gcd * col.count) s.maximum) maximum passed))

-- an opened column, over a reading of its rows: as many rows, each row, the head
unfoldable pub judged : (read : ℕ → Outcome ℕ) → Column → (vs : List ℕ) → Verdict
judged read col vs =
    or (eqb col.rows (length vs)) (counts col.rows (length vs))
    (by_row (first_unequal read 0 vs) (judged_head col (stats_of vs)))

-- what an opening of some bytes found, against a list
abbrev pub checked : Outcome Loaded → (s vs : List ℕ) → Verdict
checked (value o) s vs = judged (row_at o.column o.table s) o.column vs
checked (refusal number also) s vs = failed (unopened number also)
