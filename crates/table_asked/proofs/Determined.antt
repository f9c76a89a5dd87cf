-- What the calls promise determines what they answer, and what the lent table holds afterwards: two results that a promise allows coincide.
--     replay_determined, difference_determined, rows_at_determined, check_determined, check_as_determined
-- Assumes nothing.
use Rattle.format.specs.declared.Report.{Report}
use Rattle.format.specs.declared.Refusal.{Refusal}
use Rattle.format.specs.declared.Mismatch.{Mismatch}
use Rattle.std.specs.Prelude.{Option, Result}
use Prim.Native.Nat.{ℕ}
use mathlib.Core.Path.{◌≡◌, sym, ◌∙◌}
use mathlib.Core.List.{List}
use Rattle.format.specs.declared.Block.{Block}
use Rattle.format.specs.declared.Column.{Column}
use Rattle.format.specs.declared.Kind.{Kind}
use Rattle.format.specs.Typed.{stored_as}
use Rattle.format.proofs.Answers.{checked_injective, answered_injective}
use Rattle.byte_owner.proofs.Determined.{rows_determined}
use Rattle.compare_walk.specs.declared.Difference.{Difference}
use Rattle.compare_walk.proofs.Firsts.{difference_injective}
use Rattle.table_asked.specs.Calls.{ReplaysAs, DiffersAs, RowsAs}
use Rattle.table_asked.specs.Checked.{ChecksAs, KindChecksAs}

-- two answers of `replay`
pub replay_determined : (column : Column) (t : List Block) (s recording : List ℕ) (a b : Result Report Refusal) → ReplaysAs column t s recording a → ReplaysAs column t s recording b → a ≡ b
replay_determined column t s recording a b p q = answered_injective a b (p ∙ sym q)

-- two answers of `difference`
pub difference_determined : (left : Column) (ltable : List Block) (lbytes : List ℕ) (right : Column) (rtable : List Block) (rbytes : List ℕ) (from : ℕ) (a b : Option Difference)
    → DiffersAs left ltable lbytes right rtable rbytes from a → DiffersAs left ltable lbytes right rtable rbytes from b → a ≡ b
difference_determined left ltable lbytes right rtable rbytes from a b p q = difference_injective a b (p ∙ sym q)

-- two answers of `rows_at`
pub rows_at_determined : (column : Column) (t : List Block) (s : List ℕ) (offset : ℕ) (a b : (Result (Option (ℕ × ℕ)) Refusal)) → RowsAs column t s offset a → RowsAs column t s offset b → a ≡ b
rows_at_determined column t s = rows_determined s column t

-- two answers of `check`, and what the lent table holds afterwards
pub check_determined : (sheet : ℕ) (s values : List ℕ) (table : List Block) (a b : Result (Unit {0}) Mismatch) (after after' : List Block)
    → ChecksAs sheet s values a table after → ChecksAs sheet s values b table after' → (a ≡ b) × (after ≡ after')
check_determined sheet s values table a b after after' p q =
    (checked_injective a b (p.answer ∙ sym q.answer), p.table ∙ sym q.table)

-- the same of values of a kind
pub check_as_determined : (kind : Kind) (sheet : ℕ) (s values : List ℕ) (table : List Block) (a b : Result (Unit {0}) Mismatch) (after after' : List Block)
    → KindChecksAs kind sheet s values a table after → KindChecksAs kind sheet s values b table after' → (a ≡ b) × (after ≡ after')
check_as_determined kind sheet s values = check_determined sheet s (stored_as kind values)
