-- A check of the calls' own: its table, and its list.
--     through             a lent table that was filled answers the column's rows as the opening's own blocks do
--     numbers-checked     a list of numbers
-- Assumes nothing.
use Rattle.format.specs.declared.Mismatch.{Mismatch}
use Rattle.std.specs.Prelude.{Result}
use Prim.Native.Nat.{ℕ, ◌<◌}
use mathlib.Core.Path.{◌≡◌, ap, ◌∙◌, subst}
use mathlib.Core.List.{List}
use native.Mathlib.Omega.{arith}
use lib.ListN.{length}
use Rattle.format.specs.declared.Block.{Block}
use Rattle.format.specs.declared.Kind.TheVariants.{U64}
use Rattle.format.specs.Demands.{filled_by}
use Rattle.format.specs.Opening.{Loaded, opened}
use Rattle.format.specs.Outcome.{Outcome, Outcome.value}
use Rattle.format.specs.Reading.{column_row, row_at}
use Rattle.format.specs.Typed.{stored_as}
use Rattle.format.proofs.Laid.{opened_laid, opened-whole}
use Rattle.format.proofs.Rows.{filled_row}
use Rattle.format.proofs.StoredLists.{stored-numbers}
use Rattle.table_asked.specs.Checked.{CheckedAs}

-- a row of an opened column, through the table that its opening filled
pub through : (o : Loaded) (s : List ℕ) (table after : List Block) → opened s (length table) ≡ value o → after ≡ filled_by o table
    → (r : ℕ) → r < o.column.rows → row_at o.column after s r ≡ row_at o.column o.table s r
through o s table after found filled r h =
    let laid = opened_laid s (length table) o found in
    let first : 0 ≡ o.column.window.first = ap (λ (l : Loaded). l.column.window.first) (opened-whole s (length table) o found) in
    let inside : column_row o.column r < o.column.rows = omega (arith, first) in
    ap (λ (l : List Block). row_at o.column l s r) filled
    ∙ filled_row o table s r laid.table (laid.rows.present (column_row o.column r) inside)

-- numbers are stored as they are
pub numbers-checked : {o : Outcome Loaded} {s vs : List ℕ} {r : Result (Unit {0}) Mismatch} {table after : List Block} → CheckedAs o s (stored_as U64 vs) r table after → CheckedAs o s vs r table after
numbers-checked {o} {s} {vs} {r} {table} {after} f = subst (λ (l : List ℕ). CheckedAs o s l r table after) (stored-numbers vs) f
