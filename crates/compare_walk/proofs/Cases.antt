-- The first difference, computed for small readings.
-- Assumes nothing.
use Rattle.std.specs.Prelude.{Option, Some, None}
use Prim.Native.Nat.{ℕ}
use mathlib.Core.Path.{◌≡◌, refl}
use mathlib.Core.List.{List, [], ◌∷◌}
use lib.ListN.{get_or}
use Rattle.format.specs.Lookup.{rows_passing}
use Rattle.format.specs.Outcome.{Outcome, Outcome.value, Outcome.refusal}
use Rattle.compare_walk.specs.Differences.{Pair, first_difference}

-- a column of some answers: behind them a row is refused 12
abbrev of : List (Outcome ℕ) → ℕ → Outcome ℕ
of answers r = get_or answers r (refusal 12 [])

abbrev pair : (row : ℕ) (left right : Outcome ℕ) → Option Pair
pair row left right = Some (record { row = row; left = left; right = right })

computed : (
    -- equal answers; a row that differs, looked for from before it, from it and from behind it
    first_difference (of (value 7 ∷ value 8 ∷ [])) (of (value 7 ∷ value 8 ∷ [])) 2 0
    ∷ first_difference (of (value 7 ∷ value 8 ∷ value 9 ∷ [])) (of (value 7 ∷ value 1 ∷ value 2 ∷ [])) 3 0
    ∷ first_difference (of (value 7 ∷ value 8 ∷ value 9 ∷ [])) (of (value 7 ∷ value 1 ∷ value 2 ∷ [])) 3 1
    ∷ first_difference (of (value 7 ∷ value 8 ∷ value 9 ∷ [])) (of (value 7 ∷ value 1 ∷ value 2 ∷ [])) 3 2
    ∷ first_difference (of (value 7 ∷ value 8 ∷ value 9 ∷ [])) (of (value 7 ∷ value 1 ∷ value 2 ∷ [])) 3 3
    -- refused rows are equal by their numbers alone, and no value is
    ∷ first_difference (of (refusal 14 (0 ∷ []) ∷ [])) (of (refusal 14 (5 ∷ []) ∷ [])) 1 0
    ∷ first_difference (of (refusal 14 (0 ∷ []) ∷ [])) (of (refusal 13 [] ∷ [])) 1 0
    ∷ first_difference (of (refusal 14 (0 ∷ []) ∷ [])) (of (value 14 ∷ [])) 1 0
    -- a row of one only
    ∷ first_difference (of (value 7 ∷ [])) (of (value 7 ∷ value 8 ∷ [])) 2 0
    ∷ first_difference (of (value 7 ∷ refusal 13 [] ∷ [])) (of (value 7 ∷ [])) 2 0
    ∷ [])
    ≡
    None
    ∷ pair 1 (value 8) (value 1)
    ∷ pair 1 (value 8) (value 1)
    ∷ pair 2 (value 9) (value 2)
    ∷ None
    ∷ None
    ∷ pair 0 (refusal 14 (0 ∷ [])) (refusal 13 [])
    ∷ pair 0 (refusal 14 (0 ∷ [])) (value 14)
    ∷ pair 1 (refusal 12 []) (value 8)
    ∷ pair 1 (refusal 13 []) (refusal 12 [])
    ∷ []
unfolding first_difference rows_passing
computed = refl
