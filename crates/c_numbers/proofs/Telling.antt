-- From the rows of a byte to the numbers that a caller finds.
--     rows_found     rows that were found, of a column that was made
-- Assumes nothing.
use Rattle.std.specs.Prelude.{ℕ, ◌≡◌, List, [], ◌∷◌, Option, Result, Ok, Err, refl}
use Rattle.std.specs.Result.{result_and}
use Rattle.format.specs.declared.Column.{Column}
use Rattle.format.specs.declared.Refusal.{Refusal}
use Rattle.format.specs.Refusals.{answered_by}
use Rattle.c_numbers.specs.Explaining.{rows_numbers, rows_told, Tells}
use Rattle.c_numbers.specs.Numbers.{after}

pub rows_found : (made : Result Column Refusal) (answer : Result (Option (ℕ × ℕ)) Refusal) (owners : Option (ℕ × ℕ)) {old new : List ℕ}
    → Ok owners ≡ result_and made answer → new ≡ rows_numbers owners → Tells (after (answered_by made) (rows_told (answered_by answer))) (0 ∷ 0 ∷ []) old new
rows_found (Ok c) (Ok found) owners e is = record { refusal_is = refl; numbers = cc }
rows_found (Ok c) (Err r) owners e is = cc
rows_found (Err r) answer owners e is = cc
