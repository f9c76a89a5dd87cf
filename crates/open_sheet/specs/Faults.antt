-- What the parts of sheet 2 mean, and what they ask for.
-- Assumes nothing.
use Rattle.std.specs.Prelude.{ℕ, zero, suc, ◌+◌, ◌≤◌, ◌<◌, List, [], length, Option}
use Rattle.format.specs.declared.Column.{Column}
use Rattle.format.specs.Outcome.{Outcome, Outcome.value, Outcome.refusal, ◌>>=◌, ◌>>◌}
use Rattle.format.specs.Sheets.{Ending, clean, strict}

-- what is known of a column's end
abbrev pub ending_of : (bits resumes : ℕ) → Option ℕ → Ending
ending_of bits resumes later = record { bits = bits; resumes = resumes; later = later }

-- a column as opening answers it, unless an offset offends
abbrev pub held_as : Option ℕ → Column → Option ℕ → Outcome (Column × Option ℕ)
held_as fault col p = clean fault >> value (col, p)

-- the same of the first byte that offends sheet 2
abbrev pub strict_as : (s : List ℕ) → Column → Option ℕ → Outcome (Column × Option ℕ)
strict_as s col p = strict s col p >> value (col, p)

-- a column whose area lies behind some byte and ends within the bytes
pub record Within (col : Column) (s : List ℕ) : Type 0 where
  pub behind : 0 < col.start
  pub area : col.start + col.size ≤ length s

-- the same of a column in an opening's answer
abbrev pub AllWithin : Outcome (Column × Option ℕ) → (s : List ℕ) → Type 0
AllWithin (value x) s = Within x.0 s
AllWithin (refusal number also) s = Unit {0}

-- an opening's answer under a sheet
unfoldable pub under_as : (sheet : ℕ) (s : List ℕ) → Outcome (Column × Option ℕ) → Outcome (Column × Option ℕ)
under_as zero s a = refusal 18 []
under_as (suc zero) s a = a
under_as (suc (suc zero)) s a = a >>= (λ (x : Column × (Option ℕ)). strict_as s x.0 x.1)
under_as (suc (suc (suc sheet))) s a = refusal 18 []
