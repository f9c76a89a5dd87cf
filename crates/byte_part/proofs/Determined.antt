-- What the calls promise determines the answers: two that it allows coincide.
--     next_part_determined, fits_determined, part_determined
-- Assumes nothing.
use Rattle.format.specs.declared.Refusal.{Refusal}
use Rattle.format.specs.declared.Part.{Part}
use Rattle.std.specs.Prelude.{Option, Result}
use Prim.Native.Nat.{ℕ}
use mathlib.Core.Path.{◌≡◌, sym, ◌∙◌}
use mathlib.Core.Bool.{Bool}
use mathlib.Core.List.{List}
use Rattle.format.specs.declared.Column.{Column}
use Rattle.format.proofs.Answers.{answered_injective}
use Rattle.byte_part.specs.declared.Cursor.{Cursor}
use Rattle.byte_part.specs.Calls.{WalkedAs, FitsAs, PartAs}

-- two answers of `next_part`
pub next_part_determined : (column : Column) (s : List ℕ) (place : Cursor) (a b : Option (Part × Cursor)) → WalkedAs column s place a → WalkedAs column s place b → a ≡ b
next_part_determined column s place a b p q = p ∙ sym q

-- of `fits_at`
pub fits_determined : (column : Column) (s : List ℕ) (offset : ℕ) (a b : Bool) → FitsAs column s offset a → FitsAs column s offset b → a ≡ b
fits_determined column s offset a b p q = p ∙ sym q

-- of `part_at`
pub part_determined : (column : Column) (s : List ℕ) (offset : ℕ) (a b : Result Part Refusal) → PartAs column s offset a → PartAs column s offset b → a ≡ b
part_determined column s offset a b p q = answered_injective a b (p ∙ sym q)
