-- The rows of a chunk whose values pass a test.
-- Assumes nothing.
use Rattle.std.specs.Prelude.{ℕ, ◌+◌, Bool, List, [], ◌∷◌}
use Rattle.format.specs.Outcome.{pick}

-- the rows whose values, in a list that begins with row r, pass a test
unfoldable pub rows_among : (test : ℕ → Bool) (r : ℕ) (values : List ℕ) → List ℕ
rows_among test r [] = []
rows_among test r (v ∷ vs) =
    let rest = rows_among test (r + 1) vs in
    pick (test v) (r ∷ rest) rest
