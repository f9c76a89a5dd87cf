-- Cases of windows, on the column of P9, on one of two blocks, and on made-up windows that leave their column.
-- Assumes nothing.
use Prim.Native.Nat.{ℕ}
use mathlib.Core.List.{List, [], ◌∷◌}
use Rattle.format.specs.declared.Block.{Block}
use Rattle.format.specs.declared.Codec.TheVariants.{Bitpacked, Blockwise}
use Rattle.format.specs.declared.Column.{Column}
use Rattle.format.specs.Outcome.{Outcome.value, Outcome.refusal}
use Rattle.format.proofs.Asking.{Case, Case.◌gives◌, Asked.made, Asked.run, Asked.lookup, Asked.narrowing, block}

-- numbers of two bits in the sixth byte, above 10 in tens; so many rows; a window of n rows from first on
abbrev seen : (rows first n : ℕ) → Column
seen rows first n = record { minimum = 10; gcd = 10; count = 2; rows = rows; start = 5; size = 1; window = record { first = first; rows = n }; codec = Bitpacked }

-- P9's bytes, with its packed byte
abbrev bytes : ℕ → List ℕ
bytes b = 0x00 ∷ 0x8A ∷ 0x8A ∷ 0x82 ∷ 0x83 ∷ b ∷ []

-- 514 rows in two blocks without bits: each row is its place in its block, and 1000 more in the second
abbrev paged : (first n : ℕ) → Column
paged first n = record { minimum = 0; gcd = 1; count = 1001; rows = 514; start = 0; size = 0; window = record { first = first; rows = n }; codec = Blockwise }

abbrev table : List Block
table = block 4294967296 0 0 0 ∷ block 4294967296 1000 0 0 ∷ []

abbrev pub windows : List Case
windows =
    -- narrowing: all of it, a part, a window in a window, and no rows up to and including the window's end
    (narrowing (seen 3 0 3) 0 3 gives value (3 ∷ 0 ∷ 3 ∷ []))
    ∷ (narrowing (seen 3 0 3) 1 2 gives value (3 ∷ 1 ∷ 2 ∷ []))
    ∷ (narrowing (seen 3 1 2) 1 1 gives value (3 ∷ 2 ∷ 1 ∷ []))
    ∷ (narrowing (seen 3 1 2) 0 0 gives value (3 ∷ 1 ∷ 0 ∷ []))
    ∷ (narrowing (seen 3 1 2) 2 0 gives value (3 ∷ 3 ∷ 0 ∷ []))
    ∷ (narrowing (seen 3 3 0) 0 0 gives value (3 ∷ 3 ∷ 0 ∷ []))
    -- rows of the column that the window does not have; a sum that leaves 32 bits
    ∷ (narrowing (seen 3 1 2) 3 0 gives refusal 12 [])
    ∷ (narrowing (seen 3 0 2) 1 2 gives refusal 12 [])
    ∷ (narrowing (seen 3 0 3) 4294967295 1 gives refusal 12 [])
    -- a window that leaves its column: 12 comes first, and no rows are too many; one of no rows past the end; one whose end leaves 32 bits
    ∷ (narrowing (seen 3 2 2) 0 1 gives refusal 13 [])
    ∷ (narrowing (seen 3 2 2) 0 0 gives refusal 13 [])
    ∷ (narrowing (seen 3 2 2) 0 3 gives refusal 12 [])
    ∷ (narrowing (seen 3 4 0) 0 0 gives refusal 13 [])
    ∷ (narrowing (seen 3 4294967295 2) 0 1 gives refusal 13 [])
    -- rows count from the window's start, and 12 by its rows
    ∷ (made (seen 3 1 2) [] (bytes 0x18) 0 gives value (30 ∷ []))
    ∷ (made (seen 3 1 2) [] (bytes 0x18) 1 gives value (20 ∷ []))
    ∷ (made (seen 3 1 2) [] (bytes 0x18) 2 gives refusal 12 [])
    ∷ (made (seen 3 0 2) [] (bytes 0x18) 2 gives refusal 12 [])
    -- so does the row that 14 names
    ∷ (made (seen 3 1 2) [] (bytes 0x0C) 0 gives refusal 14 (0 ∷ []))
    ∷ (made (seen 3 1 2) [] (bytes 0x30) 1 gives refusal 14 (1 ∷ []))
    -- bits of the column's last row alone leave the area
    ∷ (made (seen 5 2 3) [] (bytes 0x18) 1 gives value (10 ∷ []))
    ∷ (made (seen 5 2 3) [] (bytes 0x18) 2 gives refusal 13 [])
    -- a window that leaves its column, even at a row that the column has; 12 comes first
    ∷ (made (seen 3 2 2) [] (bytes 0x18) 0 gives refusal 13 [])
    ∷ (made (seen 3 2 2) [] (bytes 0x18) 2 gives refusal 12 [])
    ∷ (made (seen 3 4294967295 2) [] (bytes 0x18) 1 gives refusal 13 [])
    -- the block, and the line, are those of the column's row
    ∷ (made (paged 510 4) table [] 1 gives value (511 ∷ []))
    ∷ (made (paged 510 4) table [] 2 gives value (1000 ∷ []))
    ∷ (made (paged 510 4) table [] 3 gives value (1001 ∷ []))
    -- runs: 12 by the window's rows; the first refused row, counted from its start; none in a window that leaves its column
    ∷ (run (seen 3 1 2) [] (bytes 0x18) 0 2 gives value (30 ∷ 20 ∷ []))
    ∷ (run (seen 3 0 2) [] (bytes 0x18) 1 2 gives refusal 12 [])
    ∷ (run (seen 3 1 2) [] (bytes 0x30) 0 2 gives refusal 14 (1 ∷ []))
    ∷ (run (seen 3 2 2) [] (bytes 0x18) 2 0 gives value [])
    ∷ (run (seen 3 2 2) [] (bytes 0x18) 3 0 gives refusal 12 [])
    ∷ (run (seen 3 2 2) [] (bytes 0x18) 0 1 gives refusal 13 [])
    ∷ (run (paged 510 4) table [] 0 4 gives value (510 ∷ 511 ∷ 1000 ∷ 1001 ∷ []))
    -- lookups: cut to the window's rows, and the rows found count from its start
    ∷ (lookup (seen 3 1 2) [] (bytes 0x18) 10 20 0 9 5 gives value (1 ∷ []))
    ∷ (lookup (seen 3 0 2) [] (bytes 0x18) 20 30 0 9 5 gives value (1 ∷ []))
    ∷ (lookup (seen 3 1 2) [] (bytes 0x18) 0 30 0 1 5 gives value (0 ∷ []))
    ∷ (lookup (seen 3 1 2) [] (bytes 0x18) 0 30 0 9 1 gives refusal 15 (2 ∷ []))
    ∷ (lookup (seen 3 1 2) [] (bytes 0x30) 0 9 0 9 5 gives refusal 14 (1 ∷ []))
    ∷ (lookup (seen 3 2 2) [] (bytes 0x18) 0 30 2 9 5 gives value [])
    ∷ (lookup (seen 3 2 2) [] (bytes 0x18) 0 30 1 9 5 gives refusal 13 [])
    ∷ (lookup (paged 510 4) table [] 511 1000 0 9 5 gives value (1 ∷ 2 ∷ []))
    ∷ []
