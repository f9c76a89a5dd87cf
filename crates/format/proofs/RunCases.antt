-- Cases of runs of rows, on the column of P9 and on made-up ones beside it. The answers were made by a model written apart from these definitions.
-- Assumes nothing.
use Prim.Native.Nat.{ℕ}
use mathlib.Core.List.{List, [], ◌∷◌}
use Rattle.format.specs.declared.Codec.TheVariants.{Bitpacked}
use Rattle.format.specs.declared.Column.{Column}
use Rattle.format.specs.Outcome.{Outcome.value, Outcome.refusal}
use Rattle.format.proofs.Asking.{Case, Case.◌gives◌, Asked.run}

-- numbers of two bits in the sixth byte, above 10 in steps of the gcd; so many rows
abbrev steps : (gcd rows : ℕ) → Column
steps gcd rows = record { minimum = 10; gcd = gcd; count = 2; rows = rows; start = 5; size = 1; window = record { first = 0; rows = rows }; codec = Bitpacked }

-- P9's bytes, with its packed byte
abbrev bytes : ℕ → List ℕ
bytes b = 0x00 ∷ 0x8A ∷ 0x8A ∷ 0x82 ∷ 0x83 ∷ b ∷ []

abbrev pub runs : List Case
runs =
    -- all rows; the last two; one
    (run (steps 10 3) [] (bytes 0x18) 0 3 gives value (10 ∷ 30 ∷ 20 ∷ []))
    ∷ (run (steps 10 3) [] (bytes 0x18) 1 2 gives value (30 ∷ 20 ∷ []))
    ∷ (run (steps 10 3) [] (bytes 0x18) 1 1 gives value (30 ∷ []))
    -- no rows, up to and including the row count
    ∷ (run (steps 10 3) [] (bytes 0x18) 0 0 gives value [])
    ∷ (run (steps 10 3) [] (bytes 0x18) 3 0 gives value [])
    ∷ (run (steps 10 3) [] (bytes 0x18) 4 0 gives refusal 12 [])
    -- a row past the end, from within and from the end on
    ∷ (run (steps 10 3) [] (bytes 0x18) 1 3 gives refusal 12 [])
    ∷ (run (steps 10 3) [] (bytes 0x18) 3 1 gives refusal 12 [])
    -- the first refused row decides; one outside the run does not
    ∷ (run (steps 10 3) [] (bytes 0x3C) 0 3 gives refusal 14 (1 ∷ []))
    ∷ (run (steps 10 3) [] (bytes 0x3C) 2 1 gives refusal 14 (2 ∷ []))
    ∷ (run (steps 10 3) [] (bytes 0x0C) 2 1 gives value (10 ∷ []))
    -- leaving the rows comes before a refused row
    ∷ (run (steps 10 3) [] (bytes 0x3C) 1 3 gives refusal 12 [])
    -- where every row is refused, an empty run is not
    ∷ (run (steps 0 3) [] (bytes 0x18) 0 1 gives refusal 13 [])
    ∷ (run (steps 0 3) [] (bytes 0x18) 3 0 gives value [])
    ∷ (run (steps 0 3) [] (bytes 0x18) 2 2 gives refusal 12 [])
    -- bits of the last row alone leave the area
    ∷ (run (steps 10 5) [] (bytes 0x18) 0 4 gives value (10 ∷ 30 ∷ 20 ∷ 10 ∷ []))
    ∷ (run (steps 10 5) [] (bytes 0x18) 0 5 gives refusal 13 [])
    ∷ []
