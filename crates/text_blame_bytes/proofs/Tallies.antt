-- Counting, offset by offset.
--     tally_more, tally_ends      one offset; behind the last
--     counted_same, counted_none, counted_rows      what can be counted on afterwards
-- Assumes nothing.
use Rattle.std.specs.Prelude.{Option, Some, None}
use Prim.Native.Nat.{ℕ, suc, ◌+◌, ◌-◌, ◌^◌, ◌≤◌, ◌<◌}
use mathlib.Core.Path.{◌≡◌, ap}
use mathlib.Core.List.{List}
use native.Mathlib.Numerals.{add-one}
use native.Mathlib.Omega.{arith}
use Rattle.text_blame_bytes.specs.declared.counting.Tally.{Tally}
use Rattle.text_blame_bytes.specs.Tallies.{with_byte, tally_from, Countable, Counted}

module _ (owners : ℕ → Option (ℕ × ℕ)) (s t : List ℕ) where
  pub tally_more : (i n : ℕ) (k : Tally) → i < n → tally_from owners s t i (n - i) k ≡ tally_from owners s t (i + 1) (n - (i + 1)) (tally_from owners s t i 1 k)
  unfolding tally_from
  tally_more i n k h =
      let left : n - i ≡ suc (n - suc i) = omega arith in
      rw add-one (ap (λ (m : ℕ). tally_from owners s t i m k) left)

  pub tally_ends : (i n : ℕ) (k : Tally) → n ≤ i → tally_from owners s t i (n - i) k ≡ k
  unfolding tally_from
  tally_ends i n k h =
      let none : n - i ≡ 0 = omega arith in
      ap (λ (m : ℕ). tally_from owners s t i m k) none

pub counted_same : (k : Tally) → Countable k → Counted k k
counted_same k c = record { bytes = omega arith; rows = c.rows; next = c.next }

-- a byte that names no row, and one whose rows have 32 bits
pub counted_none : (k : Tally) → Countable k → Counted k (with_byte k None)
counted_none k c = record { bytes = omega arith; rows = c.rows; next = c.next }

pub counted_rows : (k : Tally) (first last : ℕ) → Countable k → last < 2 ^ 32 → Counted k (with_byte k (Some (first, last)))
counted_rows k first last c small = record { bytes = omega arith; rows = omega (arith, c.rows); next = omega (arith, c.next) }
