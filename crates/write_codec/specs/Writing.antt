-- A column and the output that it is for.
-- Assumes nothing.
use Rattle.std.specs.Prelude.{ℕ, List, [], ◌∷◌, leb, length}
use Rattle.format.specs.Outcome.{Outcome, Outcome.value, ◌>>◌, demand}

-- a column for an output of so many bytes: a shorter one is refused
abbrev pub lent : (column : List ℕ) (room : ℕ) → Outcome (List ℕ)
lent column room = demand (leb (length column) room) 4 (length column ∷ []) >> value column
