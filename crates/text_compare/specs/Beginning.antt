-- How a comparison begins: with two opened columns, or with a refusal's line.
-- Assumes nothing.
use Rattle.text_column.specs.declared.own.Own.{Own}
use Rattle.std.specs.Prelude.{ℕ, ◌≡◌, List, [], length, Result, Ok, Err}
use Rattle.std.proofs.lemmas.List.Edits.{sets}
use Rattle.io.specs.Counts.{IsPrefixLen}
use Rattle.format.specs.declared.Column.{Column}
use Rattle.format.specs.Listing.{ascii, named_line}
use Rattle.format.specs.Opening.{Loaded}
use Rattle.format.specs.Outcome.{Outcome, Outcome.value, Outcome.refusal}
use Rattle.text_column.specs.Own.{own_first}

-- the line of the first side that does not open; none where both do
abbrev pub only_line : (left right : Outcome Loaded) → List ℕ
only_line (refusal number also) right = named_line (ascii "left refused ") number
only_line (value o) (refusal number also) = named_line (ascii "right refused ") number
only_line (value o) (value p) = []

-- the answer
abbrev pub begun : (s t : List ℕ) (left right : Outcome Loaded) → Result (Own × Own) ℕ
begun s t (refusal number also) right = Err (length (named_line (ascii "left refused ") number))
begun s t (value o) (refusal number also) = Err (length (named_line (ascii "right refused ") number))
begun s t (value o) (value p) = Ok (own_first s o.column, own_first t p.column)

-- the line's length in it
abbrev pub line_length : Result (Own × Own) ℕ → ℕ
line_length (Ok (c, d)) = 0
line_length (Err n) = n

-- `begin` of two byte strings by what opening them found: the answer, and the line before and after, whose first bytes the answer counts
pub record BegunAs (s t : List ℕ) (left right : Outcome Loaded) (r : Result (Own × Own) ℕ) (old new : List ℕ) : Type 0 where
  pub answer : r ≡ begun s t left right
  pub line : new ≡ sets old 0 (only_line left right)
  pub counts : IsPrefixLen (line_length r) new

-- the same where the left side was opened, by its column
abbrev pub BegunOn : (s t : List ℕ) → Column → (right : Outcome Loaded) (r : Result (Own × Own) ℕ) (old new : List ℕ) → Type 0
BegunOn s t c right r old new = (o : Loaded) → o.column ≡ c → BegunAs s t (value o) right r old new
