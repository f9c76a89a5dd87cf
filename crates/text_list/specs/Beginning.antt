-- How a listing begins: with an opened column and the first line, or with a refusal and its line.
-- Assumes nothing.
use Rattle.text_column.specs.declared.own.Own.{Own}
use Rattle.std.specs.Prelude.{ℕ, ◌+◌, ◌*◌, ◌≡◌, List, length, Result, Ok, Err}
use Rattle.std.proofs.lemmas.List.Edits.{sets}
use Rattle.io.specs.Counts.{IsPrefixLen}
use Rattle.format.specs.declared.Column.{Column}
use Rattle.format.specs.Listing.{ascii, named_line, head_line, code_of}
use Rattle.format.specs.Opening.{Loaded}
use Rattle.format.specs.Outcome.{Outcome, Outcome.value, Outcome.refusal}
use Rattle.text_column.specs.Own.{own_first}

-- a column's first line
unfoldable pub column_line : Column → List ℕ
column_line c = head_line (code_of c.codec) c.rows c.minimum (c.minimum + c.gcd * c.count) c.gcd

-- the line that a listing begins with
abbrev pub first_line : Outcome Loaded → List ℕ
first_line (value o) = column_line o.column
first_line (refusal number also) = named_line (ascii "refused ") number

-- the answer
abbrev pub begun : (s : List ℕ) → Outcome Loaded → Result (Own × ℕ) (ℕ × ℕ)
begun s (value o) = Ok (own_first s o.column, length (column_line o.column))
begun s (refusal number also) = Err (number, length (named_line (ascii "refused ") number))

-- the line's length in it
abbrev pub line_length : Result (Own × ℕ) (ℕ × ℕ) → ℕ
line_length (Ok (own, n)) = n
line_length (Err (number, n)) = n

-- `begin` of some bytes by what opening them found: the answer, and the line before and after, whose first bytes the answer counts
pub record BegunAs (s : List ℕ) (o : Outcome Loaded) (r : Result (Own × ℕ) (ℕ × ℕ)) (old new : List ℕ) : Type 0 where
  pub answer : r ≡ begun s o
  pub line : new ≡ sets old 0 (first_line o)
  pub counts : IsPrefixLen (line_length r) new
