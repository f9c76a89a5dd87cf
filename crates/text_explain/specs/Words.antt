-- The names' words one behind another, by the numbers of names (byte_part/specs/Names): what the writing of a name is made of.
-- Assumes nothing.
use Rattle.std.specs.Prelude.{ℕ, ◌+◌, ◌-◌, List, [], ◌∷◌, ◌&&◌, leb, get_or, take, drop}
use Rattle.format.specs.Outcome.{pick}
use Rattle.format.specs.Listing.{ascii, named}

-- all words
abbrev pub words : List ℕ
words = ascii "codeminimumgcdcountrowsslopeinterceptwidthareabehind slope intercept widthsparefooter length"

-- where those of each name end
abbrev pub ends : List ℕ
ends = 4 ∷ 11 ∷ 14 ∷ 19 ∷ 23 ∷ 28 ∷ 37 ∷ 42 ∷ 46 ∷ 52 ∷ 58 ∷ 68 ∷ 74 ∷ 79 ∷ 92 ∷ []

-- where they begin: at the first word, and where those of the name before end
abbrev pub word_start : (which : ℕ) → ℕ
word_start which = get_or (0 ∷ ends) which 0

-- those of a name
unfoldable pub word : (which : ℕ) → List ℕ
word which = take (word_start (which + 1) - word_start which) (drop (word_start which) words)

-- what stands before them: the block, where it is a block's field
abbrev pub before : (which block : ℕ) → List ℕ
before which block = pick (leb 10 which && leb which 12) (named (ascii "block ") block) []
