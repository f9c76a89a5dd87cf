-- The rows of a run and of a byte, as the code finds them.
--     run_illegal, run_early, run_late, run_here          a run's answer by its tests
--     wide_run                                            a bit of a run is a row's
--     owners_early, owners_by                             a byte before the area; one from its start on, by the codec
-- Assumes nothing.
use Rattle.std.specs.Prelude.{Option, Some, None}
use Prim.Native.Nat.{ℕ, zero, suc, ◌+◌, ◌-◌, ◌*◌, ◌/◌, ◌≤◌, ◌<◌, min}
use mathlib.Core.Path.{◌≡◌, sym, ◌∙◌}
use mathlib.Core.Bool.{true, false}
use mathlib.Core.List.{List}
use native.Mathlib.Nat.{div-lt_iff_lt-mul, mul-zero, zero-mul}
use native.Mathlib.Omega.{arith}
use borrow.Author.Tests.{lt-ltb, le-ltb, le-leb, lt-leb}
use Rattle.format.specs.declared.Block.{Block}
use Rattle.format.specs.declared.Codec.{Codec}
use Rattle.format.specs.declared.Column.{Column}
use Rattle.format.specs.Packing.{legal}
use Rattle.format.specs.Parts.{Run, run_owners, area_owners, owners_at}

module _ (u : Run) (j : ℕ) where
  pub run_illegal : legal u.bits ≡ false → run_owners u j ≡ None
  unfolding run_owners
  run_illegal e = rw e

  pub run_early : legal u.bits ≡ true → j < u.start → run_owners u j ≡ None
  unfolding run_owners
  run_early lawful h = rw (lawful, lt-leb u.start j h)

  pub run_late : legal u.bits ≡ true → u.start ≤ j → u.rows * u.bits ≤ 8 * (j - u.start) → run_owners u j ≡ None
  unfolding run_owners
  run_late lawful low h = rw (lawful, le-leb u.start j low, le-ltb (8 * (j - u.start)) (u.rows * u.bits) h)

  pub run_here : legal u.bits ≡ true → u.start ≤ j → 8 * (j - u.start) < u.rows * u.bits
      → run_owners u j ≡ Some (u.first + 8 * (j - u.start) / u.bits, u.first + min ((8 * (j - u.start) + 7) / u.bits) (u.rows - 1))
  unfolding run_owners
  run_here lawful low h = rw (lawful, le-leb u.start j low, lt-ltb (8 * (j - u.start)) (u.rows * u.bits) h)

some_bits : (rows bits : ℕ) → 0 < rows * bits → (0 < bits) × (0 < rows)
some_bits zero bits h = absurd (omega (arith, zero-mul bits))
some_bits (suc rows) zero h = absurd (omega (arith, mul-zero (suc rows)))
some_bits (suc rows) (suc bits) h = (omega arith, omega arith)

-- a bit of a run is a row's
pub wide_run : (bit rows bits : ℕ) → bit < rows * bits → (0 < bits) × (0 < rows) × (bit / bits < rows)
wide_run bit rows bits h =
    let some = some_bits rows bits (omega arith) in
    (some.0, some.1, (div-lt_iff_lt-mul {k = bits} {x = bit} {y = rows} some.0).1 h)

-- ---- a byte of the column

pub owners_early : (col : Column) (t : List Block) (i : ℕ) → i < col.start → None ≡ owners_at col t i
unfolding owners_at
owners_early col t i h = rw (lt-leb col.start i h)

pub owners_by : (col : Column) (t : List Block) (i : ℕ) (r : Option (ℕ × ℕ)) (codec : Codec) → col.start ≤ i → col.codec ≡ codec
    → r ≡ area_owners codec col.count col.rows t (i - col.start) → r ≡ owners_at col t i
unfolding owners_at
owners_by col t i r codec low is e = e ∙ sym within
  where
    within : owners_at col t i ≡ area_owners codec col.count col.rows t (i - col.start)
    within = rw (le-leb col.start i low, is)
