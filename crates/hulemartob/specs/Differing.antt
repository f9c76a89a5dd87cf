-- Where two columns differ, for a C or a Rust caller, who hands both over as numbers.
-- Assumes nothing.
use Rattle.std.specs.Prelude.{ℕ, List}
use Rattle.format.specs.declared.Block.{Block}
use Rattle.format.specs.declared.Column.{Column}
use Rattle.format.specs.Outcome.{Outcome, Outcome.value, ◌>>=◌}
use Rattle.compare_walk.specs.Differences.{columns_differ}
use Rattle.c_numbers.specs.Numbers.{column_from}
use Rattle.c_answers.specs.Differing.{difference_numbers}

-- the numbers of the first difference of two columns of twelve numbers; the left one's refusal comes first
abbrev pub difference_from : (left : List ℕ) (ltable : List Block) (lbytes right : List ℕ) (rtable : List Block) (rbytes : List ℕ) (from : ℕ) → Outcome (List ℕ)
difference_from left ltable lbytes right rtable rbytes from =
    column_from left >>= (λ (l : Column). column_from right >>= (λ (r : Column). value (difference_numbers (columns_differ l ltable lbytes r rtable rbytes from))))
