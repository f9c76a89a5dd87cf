-- A walk over the rows of a column beside a list of values, chunk by chunk, up to the first row that is not its value. Over any reading.
-- Assumes nothing.
use Rattle.std.specs.Prelude.{ℕ, suc, ◌+◌, ◌-◌, ◌≤◌, ◌≡◌, false, ◌&&◌, List, [], ◌∷◌, eqb, ltb, leb, length, drop, Some, None}
use Rattle.format.specs.declared.Column.{Column}
use Rattle.format.specs.Checking.{Reason.unequal, Verdict, Verdict.failed, first_unequal, judged_head}
use Rattle.format.specs.Outcome.{Outcome, pick}
use Rattle.format.specs.Stats.{stats_of}
use Rattle.check_verdict.specs.declared.rows.Walk.{Walk}

-- how many entries at the front of two lists are equal
unfoldable pub same_front : (xs ys : List ℕ) → ℕ
same_front [] ys = 0
same_front (x ∷ xs) [] = 0
same_front (x ∷ xs) (y ∷ ys) = pick (eqb x y) (suc (same_front xs ys)) 0

-- a walk behind a chunk of n values, of which so many at the front are the list's: a chunk that has none, or another value, ends it
abbrev pub behind : (n same : ℕ) → Walk → Walk
behind n same w = record { at = w.at + same; going = ltb 0 n && leb n same }

-- what is left: the rows, and the chunk without any behind them
abbrev pub left : (rows : ℕ) → Walk → ℕ
left rows w = pick w.going (suc (rows - w.at)) 0

-- no row before the walk's is unequal; where it is over, its row is, or none is left
pub record Walking (read : ℕ → Outcome ℕ) (vs : List ℕ) (w : Walk) : Type 0 where
  pub inside : w.at ≤ length vs
  pub onward : first_unequal read 0 vs ≡ first_unequal read w.at (drop w.at vs)
  pub over : w.going ≡ false → first_unequal read w.at (drop w.at vs) ≡ pick (ltb w.at (length vs)) (Some w.at) None

-- the verdict where a walk ended: its row, or, where none is left, that on the head
abbrev pub verdict : Column → (vs : List ℕ) (at : ℕ) → Verdict
verdict col vs at = pick (ltb at (length vs)) (failed (unequal at)) (judged_head col (stats_of vs))
