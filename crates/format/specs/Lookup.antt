-- Looking rows up, over any reading of rows and any test of values.
-- Assumes nothing.
use Rattle.std.specs.Prelude.{ℕ, zero, suc, ◌-◌, min, Bool, false, ◌&&◌, List, [], ◌∷◌, leb, length}
use Rattle.format.specs.Outcome.{Outcome, Outcome.value, Outcome.refusal, ◌>>=◌, ◌>>◌, demand, pick}

-- the first of n rows from r on that reading refuses decides
unfoldable pub all_read : (read : ℕ → Outcome ℕ) (r n : ℕ) → Outcome (Unit {0})
all_read read r zero = value tt
all_read read r (suc n) = read r >>= (λ (v : ℕ). all_read read (suc r) n)

-- whether what a row reads as passes a test
abbrev pub passes : (test : ℕ → Bool) → Outcome ℕ → Bool
passes test (value v) = test v
passes test (refusal number also) = false

-- those of n rows from r on whose value passes a test, ascending
unfoldable pub rows_passing : (read : ℕ → Outcome ℕ) (test : ℕ → Bool) (r n : ℕ) → List ℕ
rows_passing read test r zero = []
rows_passing read test r (suc n) =
    let rest = rows_passing read test (suc r) n in
    pick (passes test (read r)) (r ∷ rest) rest

-- looking up the rows from first to end, cut to so many rows, into a list with so much room; first not below end: none
unfoldable pub looked_up : (read : ℕ → Outcome ℕ) (rows : ℕ) (test : ℕ → Bool) (first end room : ℕ) → Outcome (List ℕ)
looked_up read rows test first end room = do
  let n = min end rows - first
  let found = rows_passing read test first n
  all_read read first n
  demand (leb (length found) room) 15 (length found ∷ [])
  value found

-- the test of a value range: from low to high
abbrev pub within : (low high v : ℕ) → Bool
within low high v = leb low v && leb v high
