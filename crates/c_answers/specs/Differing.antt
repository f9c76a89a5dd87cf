-- A difference as seven numbers: what a caller finds who asks where two columns differ.
-- Assumes nothing.
use Rattle.std.specs.Prelude.{ℕ, ◌-◌, ◌^◌, List, [], ◌∷◌, ◌++◌, Option, Some, None}
use Rattle.format.specs.Outcome.{Outcome}
use Rattle.compare_walk.specs.Differences.{Pair}
use Rattle.c_numbers.specs.Numbers.{told, or_zero}

-- the three numbers of a row's answer: its refusal's two, and its value, 0 on refusal
abbrev pub answer_numbers : Outcome ℕ → List ℕ
answer_numbers o = told o ++ (or_zero o ∷ [])

-- the row, and what each side answers there; 2^64 - 1 and zeros where nothing differs
abbrev pub difference_numbers : Option Pair → List ℕ
difference_numbers None = (2 ^ 64 - 1) ∷ 0 ∷ 0 ∷ 0 ∷ 0 ∷ 0 ∷ 0 ∷ []
difference_numbers (Some p) = p.row ∷ (answer_numbers p.left ++ answer_numbers p.right)
