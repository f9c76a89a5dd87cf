-- The promise of `stop` determines its answer: two that it allows coincide.
--     stop_determined
-- Assumes nothing.
use Rattle.format.specs.declared.Stop.{Stop}
use Rattle.std.specs.Prelude.{Option}
use Prim.Native.Nat.{ℕ}
use mathlib.Core.Path.{◌≡◌, sym, ◌∙◌}
use mathlib.Core.List.{List}
use Rattle.byte_stop.specs.Meaning.{StopsAs}

pub stop_determined : (s : List ℕ) (a b : Option Stop) → StopsAs s a → StopsAs s b → a ≡ b
stop_determined s a b p q = p ∙ sym q
