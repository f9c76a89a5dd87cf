-- A range of values by one comparison: how far a value lies above the low end, modulo 2^64.
--     turned, near, far
--     top_tells               by the top bits of two numbers
--     adds_top, set_outside   what that bit adds to a count, and what it says where it is set
-- Assumes nothing.
use Prim.Native.Nat.{ℕ, ◌+◌, ◌-◌, ◌/◌, ◌^◌, ◌≤◌, ◌<◌}
use mathlib.Core.Path.{◌≡◌, refl}
use mathlib.Core.Bool.{Bool, true, false}
use mathlib.Core.Logic.{⊎_elim}
use native.Mathlib.Omega.{arith}
use lib.Bits.{bit_or, or_lt, or_add_and, and_le_l, and_le_r}
use borrow.Author.Tests.{le-leb, lt-leb}
use Rattle.format.specs.Lookup.{within}
use Rattle.format.specs.Outcome.{pick}
use Rattle.format.specs.Word.{mod_sub}
use Rattle.format.proofs.Lists.{below_or}

module _ (low high v : ℕ) where
  -- a range whose ends are turned has no value
  pub turned : high < low → within low high v ≡ false
  turned h =
      ⊎_elim
      (λ (below : v < low). rw (lt-leb low v below))
      (λ (above : low ≤ v). rw (le-leb low v above, lt-leb v high (omega arith)))
      (below_or v low)

  module _ (ordered : low ≤ high) (most : high < 2 ^ 64) (fits : v < 2 ^ 64) where
    pub near : mod_sub v low ≤ high - low → within low high v ≡ true
    near h =
        let a : low ≤ v = omega arith in
        let b : v ≤ high = omega arith in
        rw (le-leb low v a, le-leb v high b)

    pub far : high - low < mod_sub v low → within low high v ≡ false
    far h =
        ⊎_elim
        (λ (below : v < low). rw (lt-leb low v below))
        (λ (above : low ≤ v). rw (le-leb low v above, lt-leb v high (omega arith)))
        (below_or v low)

module _ (span x y : ℕ) (small : span < 2 ^ 63) (fits : x < 2 ^ 64) (rest : y ≡ mod_sub span x) where
  -- a number within a span of fewer than 2^63 has no top bit, nor has what it leaves of the span
  top_inside : x ≤ span → bit_or x y / 2 ^ 63 ≡ 0
  top_inside h =
      let a : x < 2 ^ 63 = omega arith in
      let b : y < 2 ^ 63 = omega arith in
      omega (arith, or_lt 63 x y a b)

  -- of one beyond it, one of the two has
  top_outside : span < x → bit_or x y / 2 ^ 63 ≡ 1
  top_outside h =
      let b : y < 2 ^ 64 = omega arith in
      omega (arith, or_lt 64 x y fits b, or_add_and x y, and_le_l x y, and_le_r x y)

-- that bit tells what lies outside the range
pub top_tells : (low span v x y : ℕ) → span < 2 ^ 63 → low + span < 2 ^ 64 → v < 2 ^ 64 → x ≡ mod_sub v low → y ≡ mod_sub span x → bit_or x y / 2 ^ 63 ≡ pick (within low (low + span) v) 0 1
top_tells low span v x y small room fits far-is rest =
    let most : x < 2 ^ 64 = omega arith in
    let width : low + span - low ≡ span = omega arith in
    ⊎_elim
    (λ (h : span < x).
    rw (far low (low + span) v (omega arith) room fits (omega arith))
    (top_outside span x y small most rest h))
    (λ (h : x ≤ span).
    rw (near low (low + span) v (omega arith) room fits (omega arith))
    (top_inside span x y small most rest h))
    (below_or span x)

-- what it adds to a count
pub adds_top : (t : Bool) (n k : ℕ) → k ≡ pick t 0 1 → n + k ≡ pick t n (n + 1)
adds_top true n k e = omega (arith, e)
adds_top false n k e = omega (arith, e)

-- where it is set, the value lies outside
pub set_outside : (t : Bool) (k : ℕ) → k / 2 ^ 63 ≡ pick t 0 1 → 2 ^ 63 ≤ k → t ≡ false
set_outside true k e h = absurd (omega (arith, e))
set_outside false k e h = refl
