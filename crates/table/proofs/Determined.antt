-- What the calls promise determines what they answer and what every lent entry holds afterwards: two results that it allows coincide.
--     block_determined, open_determined, open_under_determined, row_determined, lookup_determined, run_determined
-- Assumes nothing.
use Rattle.format.specs.declared.Refusal.{Refusal}
use Rattle.std.specs.Prelude.{Option, Result}
use Prim.Native.Nat.{ℕ}
use mathlib.Core.Path.{◌≡◌, sym, ◌∙◌}
use mathlib.Core.List.{List}
use lib.ListN.{length}
use Rattle.format.specs.declared.Block.{Block}
use Rattle.format.specs.declared.Column.{Column}
use Rattle.format.specs.Calls.{OpenedAs}
use Rattle.format.specs.Opening.{Loaded, opened}
use Rattle.format.specs.Outcome.{Outcome}
use Rattle.format.specs.Sheets.{opened_under}
use Rattle.format.proofs.Answers.{answered_injective}
use Rattle.table.specs.Calls.{BlockAs, OpensAs, OpensUnderAs, RowAs, LooksAs, RunsAs}

-- two answers of `block_at`
pub block_determined : (t : List Block) (k : ℕ) (a b : Block) → BlockAs t k a → BlockAs t k b → a ≡ b
block_determined t k a b p q = p ∙ sym q

-- two answers of an opening, and what the lent table holds afterwards
determined : (o : Outcome Loaded) (t : List Block) (a b : Result (Column × Option ℕ) Refusal) (after after' : List Block) → OpenedAs o a t after → OpenedAs o b t after' → (a ≡ b) × (after ≡ after')
determined o t a b after after' p q = (answered_injective a b (p.answer ∙ sym q.answer), p.table ∙ sym q.table)

pub open_determined : (s : List ℕ) (t : List Block) (a b : Result (Column × Option ℕ) Refusal) (after after' : List Block) → OpensAs s a t after → OpensAs s b t after' → (a ≡ b) × (after ≡ after')
open_determined s t = determined (opened s (length t)) t

pub open_under_determined : (sheet : ℕ) (s : List ℕ) (t : List Block) (a b : Result (Column × Option ℕ) Refusal) (after after' : List Block)
    → OpensUnderAs sheet s a t after → OpensUnderAs sheet s b t after' → (a ≡ b) × (after ≡ after')
open_under_determined sheet s t = determined (opened_under sheet s (length t)) t

-- two answers of `row`
pub row_determined : (column : Column) (t : List Block) (s : List ℕ) (row : ℕ) (a b : Result ℕ Refusal) → RowAs column t s row a → RowAs column t s row b → a ≡ b
row_determined column t s row a b p q = answered_injective a b (p ∙ sym q)

-- two answers of `lookup`, and what the lent list holds afterwards
pub lookup_determined : (column : Column) (t : List Block) (s : List ℕ) (low high first end : ℕ) (found : List ℕ) (a b : Result ℕ Refusal) (after after' : List ℕ)
    → LooksAs column t s low high first end a found after → LooksAs column t s low high first end b found after' → (a ≡ b) × (after ≡ after')
lookup_determined column t s low high first end found a b after after' p q = (answered_injective a b (p.answer ∙ sym q.answer), p.list ∙ sym q.list)

-- two answers of `run`, and what the lent list holds afterwards
pub run_determined : (column : Column) (t : List Block) (s : List ℕ) (first : ℕ) (out : List ℕ) (a b : Result ℕ Refusal) (after after' : List ℕ)
    → RunsAs column t s first a out after → RunsAs column t s first b out after' → (a ≡ b) × (after ≡ after')
run_determined column t s first out a b after after' p q = (answered_injective a b (p.answer ∙ sym q.answer), p.list ∙ sym q.list)
