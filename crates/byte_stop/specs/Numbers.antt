-- Where opening stops, as plain numbers.
-- Assumes nothing.
use Rattle.std.specs.Prelude.{ℕ, List, [], ◌∷◌, Option, Some, None}
use Rattle.format.specs.declared.Stop.{Stop}
use Rattle.byte_part.specs.Names.{which_part, block_of}

-- the refusal's number, the part, its block, and where it begins; zeros where opening does not stop
abbrev pub stop_numbers : Option Stop → List ℕ
stop_numbers None = 0 ∷ 0 ∷ 0 ∷ 0 ∷ []
stop_numbers (Some t) = t.number ∷ which_part t.name ∷ block_of t.name ∷ t.first ∷ []
