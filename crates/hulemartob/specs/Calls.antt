-- The calls of a C or a Rust caller, who hands columns and kinds over as numbers.
-- Assumes nothing.
use Rattle.format.specs.declared.Report.{Report}
use Rattle.std.specs.Prelude.{ℕ, ◌≡◌, List, [], ◌∷◌}
use Rattle.format.specs.declared.Block.{Block}
use Rattle.format.specs.declared.Column.{Column}
use Rattle.format.specs.declared.Kind.{Kind}
use Rattle.format.specs.declared.Part.{Part}
use Rattle.format.specs.declared.Range.{Range}
use Rattle.format.specs.Checking.{checked}
use Rattle.format.specs.Lookup.{looked_up, within}
use Rattle.format.specs.Opening.{Loaded, column_in, table_in}
use Rattle.format.specs.Outcome.{Outcome, Outcome.value, ◌>>=◌, how_many, stored}
use Rattle.format.specs.Reading.{row_at}
use Rattle.format.specs.Replaying.{replayed}
use Rattle.format.specs.Runs.{decoded}
use Rattle.format.specs.Sheets.{opened_under}
use Rattle.format.specs.Typed.{stored_as}
use Rattle.byte_part.specs.Bytes.{part_of}
use Rattle.monotonic_mapping.specs.Words.{words_as}
use Rattle.byte_owner.specs.Bytes.{rows_of}
use Rattle.c_numbers.specs.Explaining.{part_numbers, rows_told, Tells}
use Rattle.c_numbers.specs.Kinds.{kind_from}
use Rattle.c_numbers.specs.Numbers.{column_from, Answers, Describes}
use Rattle.c_answers.specs.Checking.{verdict_numbers}

-- ---- what a call finds

-- the two numbers of a range
abbrev pub range_numbers : Range → List ℕ
range_numbers r = r.low ∷ r.high ∷ []

-- the words of the values that a list of stored numbers reads as, of the kind of a number
abbrev pub words_from : (n : ℕ) (us : List ℕ) → Outcome (List ℕ)
words_from n us = kind_from n >>= (λ (kind : Kind). value (words_as kind us))

-- reading a row of the column of twelve numbers
abbrev pub row_from : (ns : List ℕ) (t : List Block) (s : List ℕ) (r : ℕ) → Outcome ℕ
row_from ns t s r = column_from ns >>= (λ (col : Column). row_at col t s r)

-- looking its rows up
abbrev pub found_from : (ns : List ℕ) (t : List Block) (s : List ℕ) (low high first end room : ℕ) → Outcome (List ℕ)
found_from ns t s low high first end room =
    column_from ns >>= (λ (col : Column). looked_up (row_at col t s) col.window.rows (within low high) first end room)

-- decoding a run of its rows
abbrev pub run_from : (ns : List ℕ) (t : List Block) (s : List ℕ) (first n : ℕ) → Outcome (List ℕ)
run_from ns t s first n = column_from ns >>= (λ (col : Column). decoded (row_at col t s) col.window.rows first n)

-- replaying a recording over it
abbrev pub replayed_from : (ns : List ℕ) (t : List Block) (s recording : List ℕ) → Outcome Report
replayed_from ns t s recording = column_from ns >>= (λ (col : Column). replayed (row_at col t s) col.window.rows recording)

-- the part of a byte of it
abbrev pub part_from : (ns s : List ℕ) (i : ℕ) → Outcome (List ℕ)
part_from ns s i = column_from ns >>= (λ (col : Column). part_of s col i >>= (λ (p : Part). value (part_numbers p)))

-- and its rows
abbrev pub rows_from : (ns : List ℕ) (t : List Block) (s : List ℕ) (i : ℕ) → Outcome (List ℕ)
rows_from ns t s i = column_from ns >>= (λ (col : Column). rows_told (rows_of s col t i))

-- checking a column against a list of values of the kind of a number
abbrev pub checked_from : (n sheet : ℕ) (s xs : List ℕ) (room : ℕ) → Outcome (List ℕ)
checked_from n sheet s xs room = kind_from n >>= (λ (kind : Kind). value (verdict_numbers (checked (opened_under sheet s room) s (stored_as kind xs))))

-- the blocks that this puts into the table
abbrev pub blocks_from : (n sheet : ℕ) (s : List ℕ) (room : ℕ) → Outcome (List Block)
blocks_from n sheet s room = kind_from n >>= (λ (kind : Kind). table_in (opened_under sheet s room))

-- ---- what a call leaves

-- the result of a call that puts what it finds into a lent list, the numbers of its refusal, and the list
pub record Lists (outcome : Outcome (List ℕ)) (result : ℕ) (refusal before after : List ℕ) : Type 0 where
  pub answers : Answers (how_many outcome) result refusal
  pub list : after ≡ stored outcome before

-- an opening: the numbers of its column, and the block table
pub record Loads (outcome : Outcome Loaded) (result : ℕ) (refusal column column' : List ℕ) (table table' : List Block) : Type 0 where
  pub describes : Describes (column_in outcome) result refusal column column'
  pub table_is : table' ≡ stored (table_in outcome) table

-- a check: the numbers of its verdict; the table holds the blocks of a column that was opened, whatever the verdict
pub record Judges (n sheet : ℕ) (s xs : List ℕ) (room : ℕ) (refusal verdict verdict' : List ℕ) (table table' : List Block) : Type 0 where
  pub tells : Tells (checked_from n sheet s xs room) refusal verdict verdict'
  pub table_is : table' ≡ stored (blocks_from n sheet s room) table
