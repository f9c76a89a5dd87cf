-- Decoding a run of rows, over any reading of rows.
-- Assumes nothing.
use Rattle.std.specs.Prelude.{ℕ, zero, suc, ◌+◌, List, [], ◌∷◌, ltb, leb, length}
use Rattle.format.specs.Outcome.{Outcome, Outcome.value, Outcome.refusal, ◌>>=◌, ◌>>◌, demand, pick}

-- the values of n rows from r on, in order; the first row that reading refuses decides
unfoldable pub read_run : (read : ℕ → Outcome ℕ) (r n : ℕ) → Outcome (List ℕ)
read_run read r zero = value []
read_run read r (suc n) = do
  v ← read r
  vs ← read_run read (suc r) n
  value (v ∷ vs)

-- a run of n rows from first on, out of so many rows: 12 before all else if it leaves them, so an empty run may stand at the end
unfoldable pub decoded : (read : ℕ → Outcome ℕ) (rows first n : ℕ) → Outcome (List ℕ)
decoded read rows first n = demand (leb (first + n) rows) 12 [] >> read_run read first n

-- what filling a list with the values of the rows from r on came to, n entries on: the row behind them is out of bounds, if the list is not full
abbrev pub filled_to : (n r : ℕ) (list : List ℕ) → Outcome (List ℕ)
filled_to n r list = pick (ltb n (length list)) (refusal 14 ((r + n) ∷ [])) (value list)
