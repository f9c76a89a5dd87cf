-- What the calls find that take a kind or a column as numbers.
-- Assumes nothing.
use Rattle.std.specs.Prelude.{ℕ, ◌-◌, ◌^◌, List, map, Option, Some, None}
use Rattle.format.specs.declared.Column.{Column}
use Rattle.format.specs.declared.ColumnStats.{ColumnStats}
use Rattle.format.specs.declared.Kind.{Kind}
use Rattle.format.specs.Outcome.{Outcome, Outcome.value, ◌>>=◌}
use Rattle.format.specs.Stats.{stated}
use Rattle.format.specs.Typed.{stored_as}
use Rattle.format.specs.Windows.{narrowed}
use Rattle.format.specs.Writing.{written}
use Rattle.u64_based.specs.Calls.{sizes}
use Rattle.c_numbers.specs.Kinds.{kind_from}
use Rattle.c_numbers.specs.Numbers.{column_from}

-- the statistics of a list of values of the kind of a number
abbrev pub stated_from : (n : ℕ) (xs : List ℕ) → Outcome ColumnStats
stated_from n xs = kind_from n >>= (λ (kind : Kind). stated (stored_as kind xs))

-- what the choice compares of each codec
abbrev pub sizes_from : (n : ℕ) (xs : List ℕ) → Outcome (List (Option ℕ))
sizes_from n xs = kind_from n >>= (λ (kind : Kind). sizes (stored_as kind xs))

-- its number, 2^64 - 1 where the codec does not apply
abbrev pub size_number : Option ℕ → ℕ
size_number None = 2 ^ 64 - 1
size_number (Some n) = n

-- the numbers of those that were found
abbrev pub sizes_told : Outcome (List (Option ℕ)) → Outcome (List ℕ)
sizes_told o = o >>= (λ (ss : List (Option ℕ)). value (map size_number ss))

-- and its column
abbrev pub written_from : (n : ℕ) (xs cs : List ℕ) (room : ℕ) → Outcome (List ℕ)
written_from n xs cs room = kind_from n >>= (λ (kind : Kind). written (stored_as kind xs) cs room)

-- narrowing the column of twelve numbers
abbrev pub narrowed_from : (ns : List ℕ) (first count : ℕ) → Outcome Column
narrowed_from ns first count = column_from ns >>= (λ (col : Column). narrowed col first count)
