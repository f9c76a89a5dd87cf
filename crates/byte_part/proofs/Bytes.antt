-- What the calls answer of a byte's part, by their tests.
--     part_unfit, part_found
-- Assumes nothing.
use Rattle.std.specs.Prelude.{Some}
use Prim.Native.Nat.{ℕ}
use mathlib.Core.Path.{◌≡◌}
use mathlib.Core.Bool.{true, false}
use mathlib.Core.List.{List, []}
use Rattle.format.specs.declared.Column.{Column}
use Rattle.format.specs.declared.Part.{Part}
use Rattle.format.specs.Outcome.{Outcome.value, Outcome.refusal}
use Rattle.format.specs.Parts.{part_at}
use Rattle.byte_part.specs.Bytes.{fits_at, part_of}

module _ (s : List ℕ) (col : Column) (i : ℕ) where
  pub part_unfit : fits_at s col i ≡ false → refusal 13 [] ≡ part_of s col i
  unfolding part_of
  part_unfit e = rw e

  pub part_found : fits_at s col i ≡ true → (p : Part) → part_at s col i ≡ Some p → value p ≡ part_of s col i
  unfolding part_of
  part_found e p there = rw (e, there)
