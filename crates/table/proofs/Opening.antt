-- Opening with a table: the rows that its answer has in the table, and what is filled in for them.
--     fillable         the blocks of those rows were checked, and the table has room for them
--     opens            filled in, they make the call's promise
--     first_sheet      under sheet 1 that is the promise of opening
-- Assumes nothing.
use Rattle.format.specs.declared.Refusal.{Refusal}
use Rattle.format.specs.declared.Column.{Column}
use Rattle.format.specs.Refusals.{answered_by}
use Rattle.std.specs.Prelude.{Option, Result}
use Prim.Native.Nat.{ℕ}
use mathlib.Core.Path.{◌≡◌, sym, ap, ◌∙◌, subst}
use mathlib.Core.List.{List}
use Rattle.format.specs.declared.Block.{Block}
use Rattle.format.specs.Outcome.{Outcome, stored}
use Rattle.format.specs.Opening.{opened, column_in}
use Rattle.format.specs.Sheets.{under_sheet, opened_under}
use Rattle.format.specs.Calls.{OpenedAs}
use Rattle.blockwise_linear.specs.Reader.{first_cursor, blocks_from, listed, Fillable}
use Rattle.open_column.specs.Opening.{tabled}
use Rattle.open_column.proofs.Opens.{Tabled, opened-tabled, under_finds, under_table}

module _ (sheet : ℕ) (s : List ℕ) (room : ℕ) (p : Result (Column × Option ℕ) Refusal) (answer : answered_by p ≡ column_in (opened_under sheet s room)) (rows : ℕ) (has : rows ≡ tabled (answered_by p)) where
  tables : Tabled s room (opened s room) (answered_by p)
  tables = opened-tabled s room (answered_by p) (under_finds sheet s room (answered_by p) answer)

  pub fillable : Fillable s rows room
  fillable = subst (λ (n : ℕ). Fillable s n room) (sym has) tables.fillable

  pub opens : (before after : List Block) → after ≡ stored (listed (blocks_from s (first_cursor s rows))) before → OpenedAs (opened_under sheet s room) p before after
  opens before after filled =
      record {
        answer = answer;
        table =
            filled ∙ ap (λ (n : ℕ). stored (listed (blocks_from s (first_cursor s n))) before) has ∙ tables.same before
            ∙ ap (λ (blocks : Outcome (List Block)). stored blocks before) (under_table sheet s room (answered_by p) answer);
      }

pub first_sheet : (s : List ℕ) (room : ℕ) (p : Result (Column × Option ℕ) Refusal) (before after : List Block) → OpenedAs (opened_under 1 s room) p before after → OpenedAs (opened s room) p before after
unfolding under_sheet
first_sheet s room p before after e = e
