-- The lengths in a file of cases.
-- Assumes nothing.
use Rattle.std.specs.Prelude.{ℕ, ◌+◌, ◌*◌, List, get_or}

-- the number that four bytes spell, little end first
abbrev pub four_bytes : (a b c d : ℕ) → ℕ
four_bytes a b c d = a + 256 * b + 65536 * c + 16777216 * d

-- the length that stands at an offset
abbrev pub length_at : (file : List ℕ) (at : ℕ) → ℕ
length_at file at = four_bytes (get_or file at 0) (get_or file (at + 1) 0) (get_or file (at + 2) 0) (get_or file (at + 3) 0)
