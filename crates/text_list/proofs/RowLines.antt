-- A row's line.
--     line_wrote     it is that of the row's answer
-- Assumes nothing.
use Prim.Native.Nat.{ℕ}
use mathlib.Core.Path.{◌≡◌}
use mathlib.Core.List.{List}
use Rattle.format.specs.Outcome.{Outcome, Wrote}
use Rattle.format.specs.Listing.{row_line}

pub line_wrote : (read : ℕ → Outcome ℕ) (r : ℕ) {o : Outcome ℕ} {new later : List ℕ} {at next : ℕ} → o ≡ read r
    → Wrote new at (row_line (λ (_ : ℕ). o) r) later next → Wrote new at (row_line read r) later next
unfolding row_line
line_wrote read r {o} e w = rw e at w
