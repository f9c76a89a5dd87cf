-- What the entry points promise determines what they answer: two results that it allows coincide.
--     open_plain_determined, open_plain_under_determined, narrow_determined
-- Assumes nothing.
use Rattle.format.specs.declared.Refusal.{Refusal}
use Rattle.std.specs.Prelude.{Option, Result}
use Prim.Native.Nat.{ℕ}
use mathlib.Core.Path.{◌≡◌, sym, ◌∙◌}
use mathlib.Core.List.{List}
use Rattle.format.specs.declared.Column.{Column}
use Rattle.format.proofs.Answers.{answered_injective, narrowed_injective}
use Rattle.open_column.specs.Calls.{PlainAs, PlainUnderAs, NarrowedAs}

-- two answers of `open_plain`
pub open_plain_determined : (s : List ℕ) (room : ℕ) (a b : Result (Column × Option ℕ) Refusal) → PlainAs s room a → PlainAs s room b → a ≡ b
open_plain_determined s room a b p q = answered_injective a b (p ∙ sym q)

-- the same under a sheet
pub open_plain_under_determined : (sheet : ℕ) (s : List ℕ) (room : ℕ) (a b : Result (Column × Option ℕ) Refusal) → PlainUnderAs sheet s room a → PlainUnderAs sheet s room b → a ≡ b
open_plain_under_determined sheet s room a b p q = answered_injective a b (p ∙ sym q)

-- two answers of `narrow`
pub narrow_determined : (column : Column) (first count : ℕ) (a b : Result Column (Refusal × Column)) → NarrowedAs column first count a → NarrowedAs column first count b → a ≡ b
narrow_determined column first count a b p q = narrowed_injective a b (p ∙ sym q)
