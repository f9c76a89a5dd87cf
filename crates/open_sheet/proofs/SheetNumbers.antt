-- An answer under a sheet, in the order of the code.
--     under_none, under_unknown, under_one              by the sheet's number
--     under_refused, under_strict                       sheet 2, from a refusal, or from a column
--     under_columns                                     it is the sheet over what the opening found
--     accepted                                          what a sheet accepts, the opening found
-- Assumes nothing.
use Rattle.std.specs.Prelude.{Option}
use Prim.Native.Nat.{ℕ, zero, suc, ◌<◌}
use mathlib.Core.Path.{◌≡◌, refl, sym, ◌∙◌}
use mathlib.Core.List.{List, []}
use native.Mathlib.Omega.{arith}
use Rattle.format.specs.declared.Column.{Column}
use Rattle.format.specs.Outcome.{Outcome, Outcome.value, Outcome.refusal, ◌>>◌}
use Rattle.format.specs.Opening.{Loaded, column_in}
use Rattle.format.specs.Sheets.{strict, under_sheet}
use Rattle.format.proofs.Outcomes.{not_value, by_step}
use Rattle.format.proofs.Sheets.{by_unit}
use Rattle.open_sheet.specs.Faults.{strict_as, under_as}

-- no sheet but 1 and 2
pub under_none : (sheet : ℕ) (s : List ℕ) (a : Outcome (Column × Option ℕ)) → sheet ≡ 0 → refusal 18 [] ≡ under_as sheet s a
unfolding under_as
under_none sheet s a e = rw e

pub under_unknown : (sheet : ℕ) (s : List ℕ) (a : Outcome (Column × Option ℕ)) → 2 < sheet → refusal 18 [] ≡ under_as sheet s a
unfolding under_as
under_unknown zero s a h = refl
under_unknown (suc zero) s a h = absurd (omega arith)
under_unknown (suc (suc zero)) s a h = absurd (omega arith)
under_unknown (suc (suc (suc sheet))) s a h = refl

-- sheet 1
pub under_one : (sheet : ℕ) (s : List ℕ) (a : Outcome (Column × Option ℕ)) → sheet ≡ 1 → a ≡ under_as sheet s a
unfolding under_as
under_one sheet s a e = rw e

-- sheet 2, from a refusal, or from a column and its spelling
pub under_refused : (sheet : ℕ) (s : List ℕ) {n : ℕ} {also : List ℕ} {a : Outcome (Column × Option ℕ)} → sheet ≡ 2 → a ≡ refusal n also → a ≡ under_as sheet s a
unfolding under_as
under_refused sheet s two e = rw (two, e)

pub under_strict : (sheet : ℕ) (s : List ℕ) (c : Column) (p : Option ℕ) {a r : Outcome (Column × Option ℕ)} → sheet ≡ 2 → a ≡ value (c, p) → r ≡ strict_as s c p → r ≡ under_as sheet s a
unfolding under_as
under_strict sheet s c p two e is = is ∙ rw (two, e)

-- the answer under a sheet is that of the opening under it
pub under_columns : (sheet : ℕ) (s : List ℕ) (o : Outcome Loaded) → under_as sheet s (column_in o) ≡ column_in (under_sheet sheet s o)
unfolding under_as under_sheet
under_columns zero s o = refl
under_columns (suc zero) s o = refl
under_columns (suc (suc zero)) s (refusal n also) = refl
under_columns (suc (suc zero)) s (value o) = sym (behind o (strict s o.column o.longer))
  where
    behind : (o : Loaded) (u : Outcome (Unit {0})) → column_in (u >> value o) ≡ (u >> value (o.column, o.longer))
    behind o (value t) = refl
    behind o (refusal n also) = refl
under_columns (suc (suc (suc sheet))) s o = refl

-- what a sheet accepts, the opening found
pub accepted : (sheet : ℕ) (s : List ℕ) (v : Outcome Loaded) (o : Loaded) → under_sheet sheet s v ≡ value o → v ≡ value o
unfolding under_sheet
accepted zero s v o e = absurd (not_value e)
accepted (suc zero) s v o e = e
accepted (suc (suc zero)) s v o e =
    by_step v _ e λ l is e.
    by_unit (strict s l.column l.longer) (value l) e λ met same.
    is ∙ same
accepted (suc (suc (suc sheet))) s v o e = absurd (not_value e)
