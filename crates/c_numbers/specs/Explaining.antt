-- A part as five numbers, and rows as two: what a caller finds who asks for those of a byte.
-- Assumes nothing.
use Rattle.std.specs.Prelude.{ℕ, ◌+◌, ◌≡◌, List, [], ◌∷◌, Option, Some, None}
use Rattle.format.specs.declared.Part.{Part}
use Rattle.format.specs.Outcome.{Outcome, Outcome.value, ◌>>=◌}
use Rattle.byte_part.specs.Names.{which_part, block_of}
use Rattle.c_numbers.specs.Numbers.{told, filled}

-- the five numbers of a part
abbrev pub part_numbers : Part → List ℕ
part_numbers p = which_part p.name ∷ block_of p.name ∷ p.first ∷ p.bytes ∷ p.value ∷ []

-- the two numbers of rows: the first, and the one behind the last
abbrev pub rows_numbers : Option (ℕ × ℕ) → List ℕ
rows_numbers (Some (first, last)) = first ∷ (last + 1) ∷ []
rows_numbers None = 0 ∷ 0 ∷ []

-- those of rows that were found
abbrev pub rows_told : Outcome (Option (ℕ × ℕ)) → Outcome (List ℕ)
rows_told o = o >>= (λ (w : Option (ℕ × ℕ)). value (rows_numbers w))

-- the numbers of the refusal, and those that were found
pub record Tells (outcome : Outcome (List ℕ)) (refusal old new : List ℕ) : Type 0 where
  pub refusal_is : refusal ≡ told outcome
  pub numbers : new ≡ filled outcome old
