-- The promises determine what the calls answer: two results that they allow coincide.
--     open_plain_determined, row_of_determined, open_determined, row_determined, rows_determined
-- Assumes nothing.
use Rattle.format.specs.declared.Refusal.{Refusal}
use Rattle.std.specs.Prelude.{Option, Result}
use denote.Ref.{Bor}
use Prim.Native.Nat.{ℕ}
use mathlib.Core.Path.{◌≡◌, sym, ◌∙◌}
use mathlib.Core.List.{List}
use Rattle.format.specs.declared.Column.{Column}
use Rattle.format.proofs.Answers.{answered_injective}
use Rattle.view.specs.declared.Opening.{Opening}
use Rattle.view.specs.declared.View.{View}
use Rattle.view.specs.Calls.{PlainAs, RowOfAs, OpensAs, RowAs, RowsAs}

-- two answers of `open_plain`
pub open_plain_determined : (sheet : ℕ) (s : List ℕ) (a b : Result (Column × Option ℕ) Refusal) → PlainAs sheet s a → PlainAs sheet s b → a ≡ b
open_plain_determined sheet s a b p q = answered_injective a b (p ∙ sym q)

-- of `row_of`
pub row_of_determined : (column : Column) (s : List ℕ) (row : ℕ) (a b : Result ℕ Refusal) → RowOfAs column s row a → RowOfAs column s row b → a ≡ b
row_of_determined column s row a b p q = answered_injective a b (p ∙ sym q)

-- of `open`: what is told, and the view with its reference
pub open_determined : (sheet : ℕ) (bytes : Bor (List ℕ)) (a b : Opening) → OpensAs sheet bytes a → OpensAs sheet bytes b → a ≡ b
open_determined sheet bytes a b p q =
    let told : a.answer ≡ b.answer = open_plain_determined sheet bytes.now a.answer b.answer p.0 q.0 in
    let lent : a.view.bytes ≡ b.view.bytes = p.1 ∙ sym q.1 in
    let column : a.view.column ≡ b.view.column = p.2 ∙ sym q.2 in
    λ i. record { answer = told i; view = record { bytes = lent i; column = column i } }

-- of `row`
pub row_determined : (view : View) (row : ℕ) (a b : Result ℕ Refusal) → RowAs view row a → RowAs view row b → a ≡ b
row_determined view = row_of_determined view.column view.bytes.now

-- of `rows`
pub rows_determined : (view : View) (a b : ℕ) → RowsAs view a → RowsAs view b → a ≡ b
rows_determined view a b p q = p ∙ sym q
