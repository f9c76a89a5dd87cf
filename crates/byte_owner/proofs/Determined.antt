-- The rows of a byte are determined: two answers that a contract allows coincide.
--     rows_determined
-- Assumes nothing.
use Rattle.format.specs.declared.Refusal.{Refusal}
use Rattle.format.specs.Refusals.{answered_by}
use Rattle.std.specs.Prelude.{Option, Result}
use Prim.Native.Nat.{ℕ}
use mathlib.Core.Path.{◌≡◌, sym, ◌∙◌}
use mathlib.Core.List.{List}
use Rattle.format.specs.declared.Block.{Block}
use Rattle.format.specs.declared.Column.{Column}
use Rattle.format.proofs.Answers.{answered_injective}
use Rattle.byte_owner.specs.Bytes.{rows_of}

-- two answers of `rows_at`
pub rows_determined : (s : List ℕ) (col : Column) (t : List Block) (i : ℕ) (a b : Result (Option (ℕ × ℕ)) Refusal)
    → answered_by a ≡ rows_of s col t i → answered_by b ≡ rows_of s col t i → a ≡ b
rows_determined s col t i a b p q = answered_injective a b (p ∙ sym q)
