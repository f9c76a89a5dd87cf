-- The steps of the code on signed numbers: v + 2^63 and back, never outside the range of an i64.
--     up, climb                 a number that is not negative, and one that is, to its stored number
--     descend, descend_high     a stored number back
-- Assumes nothing.
use mathlib.Core.Path.{◌≡◌, refl, sym, ap, ◌∙◌, subst}
use mathlib.Core.Bool.{true, false, true≢false, false≢true}
use mathlib.Core.Logic.{◌⊎◌, inl, inr}
use Prim.Native.Nat.{ℕ, suc, ◌+◌, ◌-◌, ◌^◌, ◌≤◌, ◌<◌}
use native.Mathlib.Nat.{eq-or-lt_of_le, le_of_suc-le-suc}
use native.Mathlib.Omega.{arith}
use lib.Dec.{T, leb-zero, lit≤}
use lib.IntN.{ℤ, pos, negsuc, ◌+ℤ◌, ◌-ℤ◌, nat_abs}
use lib.Signed.{mag, le_z, non_neg}
use mir.Syntax.{w64}
use mir.Val.{Fits, SFits, to_z, of_z}
use mir.Facts.{to_z-of_z, to_z_pos}
use Rattle.format.specs.Typed.{stored_signed, signed_of}
use Rattle.format.proofs.Mappings.{sub_up, sub_down, stored_positive, stored_negative, signed_high, signed_low}

-- ---- the code's steps on an i64: the machine reads a signed number back from its bits, which changes nothing in range

abbrev most : ℕ
most = 9223372036854775807

abbrev back : ℤ → ℤ
back z = to_z w64 (of_z w64 z)

-- what holds of v holds of what is read back
read : (P : ℤ → Type 0) (v : ℤ) → SFits w64 v → P v → P (back v)
read P v s p = subst P (sym (to_z-of_z {w = w64} {z = v} s)) p

unread : (P : ℤ → Type 0) (v : ℤ) → SFits w64 v → P (back v) → P v
unread P v s p = subst P (to_z-of_z {w = w64} {z = v} s) p

-- the first arm: v is not negative
pub record Up (v z : ℤ) : Type 0 where
  pub cast : T (non_neg z) × Fits w64 (nat_abs z)
  pub sum : Fits w64 (nat_abs z + 2 ^ 63)
  pub result : nat_abs z + 2 ^ 63 ≡ stored_signed v

pub up : (v : ℤ) → SFits w64 v → le_z (pos 0) (back v) ≡ true → Up v (back v)
up v s t = read (Up v) v s (go v s.sfits (unread (λ z. le_z (pos 0) z ≡ true) v s t))
  where
    go : (v : ℤ) → mag v < 2 ^ 63 → le_z (pos 0) v ≡ true → Up v v
    go (pos n) h t = record { cast = (tt, record { fits = omega arith }); sum = record { fits = omega arith }; result = sym (stored_positive n) }
    go (negsuc n) h t = absurd (false≢true t)

-- the second arm: v is negative, and goes up in two steps
neg_first : (n : ℕ) → n < 2 ^ 63 → mag (negsuc n +ℤ pos most) < 2 ^ 63
neg_first n h = go (eq-or-lt_of_le (le_of_suc-le-suc h))
  where
    go : (n ≡ most) ⊎ (n < most) → mag (negsuc n +ℤ pos most) < 2 ^ 63
    go (inl e) = rw e (lit≤ tt)
    go (inr l) = rw (sub_up most (suc n) l) (omega arith)

neg_second : (n : ℕ) → n < 2 ^ 63 → negsuc n +ℤ pos most +ℤ pos 1 ≡ pos (2 ^ 63 - suc n)
neg_second n h = go (eq-or-lt_of_le (le_of_suc-le-suc h))
  where
    go : (n ≡ most) ⊎ (n < most) → negsuc n +ℤ pos most +ℤ pos 1 ≡ pos (2 ^ 63 - suc n)
    go (inl e) = rw e refl
    go (inr l) =
        let one : most - suc n + 1 ≡ 2 ^ 63 - suc n = omega arith in
        ap (λ z. z +ℤ pos 1) (sub_up most (suc n) l) ∙ ap pos one

pub record Climb (v z : ℤ) : Type 0 where
  pub first : SFits w64 (z +ℤ pos most)
  pub second : SFits w64 (back (z +ℤ pos most) +ℤ pos 1)
  pub cast : T (non_neg (back (back (z +ℤ pos most) +ℤ pos 1))) × Fits w64 (nat_abs (back (back (z +ℤ pos most) +ℤ pos 1)))
  pub result : nat_abs (back (back (z +ℤ pos most) +ℤ pos 1)) ≡ stored_signed v

pub climb : (v : ℤ) → SFits w64 v → le_z (pos 0) (back v) ≡ false → Climb v (back v)
climb v s t = read (Climb v) v s (go v s.sfits (unread (λ z. le_z (pos 0) z ≡ false) v s t))
  where
    go : (v : ℤ) → mag v < 2 ^ 63 → le_z (pos 0) v ≡ false → Climb v v
    go (pos n) h t = absurd (true≢false (sym (leb-zero n) ∙ t))
    go (negsuc n) h t =
        let a : SFits w64 (negsuc n +ℤ pos most) = record { sfits = neg_first n h } in
        let y = back (negsuc n +ℤ pos most) +ℤ pos 1 in
        let e : y ≡ pos (2 ^ 63 - suc n) = ap (λ z. z +ℤ pos 1) (to_z-of_z {w = w64} {z = negsuc n +ℤ pos most} a) ∙ neg_second n h in
        let b : SFits w64 y = subst (SFits w64) (sym e) (record { sfits = omega arith }) in
        let f : back y ≡ pos (2 ^ 63 - suc n) = to_z-of_z {w = w64} {z = y} b ∙ e in
        record {
          first = a;
          second = b;
          cast = subst (λ z. T (non_neg z) × Fits w64 (nat_abs z)) (sym f) (tt, record { fits = omega arith });
          result = ap nat_abs f ∙ sym (stored_negative n h);
        }

-- ---- back from a stored number below 2 ^ 63, in two steps

down_first : (u : ℕ) → u < 2 ^ 63 → mag (pos u -ℤ pos most) < 2 ^ 63
down_first u h = go (eq-or-lt_of_le (le_of_suc-le-suc h))
  where
    go : (u ≡ most) ⊎ (u < most) → mag (pos u -ℤ pos most) < 2 ^ 63
    go (inl e) = rw e (lit≤ tt)
    go (inr l) = rw (sub_down u most l) (omega arith)

down_second : (u : ℕ) → u < 2 ^ 63 → pos u -ℤ pos most -ℤ pos 1 ≡ negsuc (2 ^ 63 - suc u)
down_second u h = go (eq-or-lt_of_le (le_of_suc-le-suc h))
  where
    go : (u ≡ most) ⊎ (u < most) → pos u -ℤ pos most -ℤ pos 1 ≡ negsuc (2 ^ 63 - suc u)
    go (inl e) = rw e refl
    go (inr l) =
        let one : suc (most - suc u + 0) ≡ 2 ^ 63 - suc u = omega arith in
        ap (λ z. z -ℤ pos 1) (sub_down u most l) ∙ ap negsuc one

pub record Descend (u : ℕ) : Type 0 where
  pub first : SFits w64 (to_z w64 u -ℤ pos most)
  pub second : SFits w64 (back (to_z w64 u -ℤ pos most) -ℤ pos 1)
  pub result : back (back (to_z w64 u -ℤ pos most) -ℤ pos 1) ≡ signed_of u

pub descend : (u : ℕ) → u < 2 ^ 63 → Descend u
descend u h =
    let p : to_z w64 u ≡ pos u = to_z_pos w64 h in
    let x = to_z w64 u -ℤ pos most in
    let d : x ≡ pos u -ℤ pos most = ap (λ z. z -ℤ pos most) p in
    let a : SFits w64 x = subst (SFits w64) (sym d) (record { sfits = down_first u h }) in
    let y = back x -ℤ pos 1 in
    let e : y ≡ negsuc (2 ^ 63 - suc u) = ap (λ z. z -ℤ pos 1) (to_z-of_z {w = w64} {z = x} a ∙ d) ∙ down_second u h in
    let b : SFits w64 y = subst (SFits w64) (sym e) (record { sfits = omega arith }) in
    record { first = a; second = b; result = to_z-of_z {w = w64} {z = y} b ∙ e ∙ sym (signed_low u h) }

pub descend_high : (u : ℕ) → 2 ^ 63 ≤ u → u < 2 ^ 64 → to_z w64 (u - 2 ^ 63) ≡ signed_of u
descend_high u h k = to_z_pos w64 (omega arith) ∙ sym (signed_high u h)
