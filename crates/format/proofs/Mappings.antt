-- Values as stored numbers, and back: each mapping has an inverse, stays within 64 bits and keeps order.
--     sub_up, sub_down                                     a difference of two numbers, by the larger
--     stored_positive, stored_negative, signed_high, signed_low, stored_clear, stored-set, float_high, float_low
--                                                          each mapping, by the sign
--     signed_fits, signed_in, float_fits, float_in, flag_fits
--                                                          both ways they stay in range
--     signed_back, stored_back, float_back, bits_back, flag_back
--                                                          there and back
--     signed_order, read_order, signed_ends, zeros_next, flag_rises
--                                                          order, the ends of the signed range, and the two zeros
--     bits_stored, bits_in                                 two's complement: storing is one sum modulo 2^64
-- Assumes nothing.
use mathlib.Core.Path.{◌≡◌, refl, sym, ap, ◌∙◌}
use mathlib.Core.Bool.{Bool, true, false, not, cond}
use mathlib.Core.Logic.{◌⊎◌, inl, inr}
use Prim.Native.Nat.{ℕ, suc, ◌+◌, ◌-◌, ◌^◌, ◌≤◌, ◌<◌}
use native.Mathlib.Nat.{lt_of_lt_of_le}
use native.Mathlib.Omega.{arith}
use borrow.Author.Tests.{le-leb, lt-leb, lt-ltb, le-ltb}
use lib.Dec.{T, leb, ltb, ltb→lt, lt→ltb, nltb→le}
use lib.IntN.{ℤ, pos, negsuc, sub_ℕ, nat_abs}
use lib.Signed.{mag, le_z}
use Rattle.format.specs.Word.{mod_add}
use Rattle.format.specs.Typed.{stored_signed, signed_of, stored_flag, flag_of, stored_float, float_of, signed_bits}
use Rattle.format.proofs.Lists.{below_or}

-- ---- a difference of two numbers, by the larger

pub sub_up : (a b : ℕ) → b ≤ a → sub_ℕ a b ≡ pos (a - b)
sub_up a b h = go (ltb a b) (ltb→lt a b)
  where
    go : (t : Bool) → (T t → a < b) → cond t (negsuc (b - suc a)) (pos (a - b)) ≡ pos (a - b)
    go true k = absurd (clash (k tt))
      where
        clash : a < b → ⊥
        clash k = omega arith
    go false k = refl

pub sub_down : (a b : ℕ) → a < b → sub_ℕ a b ≡ negsuc (b - suc a)
sub_down a b h = go (ltb a b) (nltb→le a b)
  where
    go : (t : Bool) → (T (not t) → b ≤ a) → cond t (negsuc (b - suc a)) (pos (a - b)) ≡ negsuc (b - suc a)
    go true k = refl
    go false k = absurd (clash (k tt))
      where
        clash : b ≤ a → ⊥
        clash k = omega arith

-- ---- signed numbers: those v with mag v < 2^63 are -2^63 to 2^63 - 1

pub stored_positive : (n : ℕ) → stored_signed (pos n) ≡ n + 2 ^ 63
unfolding stored_signed
stored_positive n = refl

pub stored_negative : (n : ℕ) → n < 2 ^ 63 → stored_signed (negsuc n) ≡ 2 ^ 63 - suc n
unfolding stored_signed
stored_negative n h = ap nat_abs (sub_up (2 ^ 63) (suc n) h)

pub signed_high : (u : ℕ) → 2 ^ 63 ≤ u → signed_of u ≡ pos (u - 2 ^ 63)
unfolding signed_of
signed_high u h = sub_up u (2 ^ 63) h

pub signed_low : (u : ℕ) → u < 2 ^ 63 → signed_of u ≡ negsuc (2 ^ 63 - suc u)
unfolding signed_of
signed_low u h = sub_down u (2 ^ 63) h

pub signed_fits : (v : ℤ) → mag v < 2 ^ 63 → stored_signed v < 2 ^ 64
signed_fits (pos n) h = rw (stored_positive n) (omega arith)
signed_fits (negsuc n) h = rw (stored_negative n h) (omega arith)

pub signed_in : (u : ℕ) → u < 2 ^ 64 → mag (signed_of u) < 2 ^ 63
signed_in u h = elim (below_or u (2 ^ 63)) [
  | inl l ↦ rw (signed_low u l) (omega arith)
  | inr g ↦ rw (signed_high u g) (omega arith)
]

-- all bits return
pub signed_back : (v : ℤ) → mag v < 2 ^ 63 → signed_of (stored_signed v) ≡ v
signed_back (pos n) h =
    let e : n + 2 ^ 63 - 2 ^ 63 ≡ n = omega arith in
    ap signed_of (stored_positive n) ∙ signed_high (n + 2 ^ 63) (omega arith) ∙ ap pos e
signed_back (negsuc n) h =
    let e : 2 ^ 63 - suc (2 ^ 63 - suc n) ≡ n = omega arith in
    ap signed_of (stored_negative n h) ∙ signed_low (2 ^ 63 - suc n) (omega arith) ∙ ap negsuc e

-- and every stored number is that of the number which it reads as
pub stored_back : (u : ℕ) → u < 2 ^ 64 → stored_signed (signed_of u) ≡ u
stored_back u h = elim (below_or u (2 ^ 63)) [
  | inl l ↦ ap stored_signed (signed_low u l) ∙ stored_negative (2 ^ 63 - suc u) (omega arith) ∙ omega arith
  | inr g ↦ ap stored_signed (signed_high u g) ∙ stored_positive (u - 2 ^ 63) ∙ omega arith
]

-- the stored numbers compare as the signed numbers do
pub signed_order : (v w : ℤ) → mag v < 2 ^ 63 → mag w < 2 ^ 63 → leb (stored_signed v) (stored_signed w) ≡ le_z v w
signed_order (pos a) (pos b) h k = rw (stored_positive a, stored_positive b) (same (below_or b a))
  where
    same : (b < a) ⊎ (a ≤ b) → leb (a + 2 ^ 63) (b + 2 ^ 63) ≡ leb a b
    same (inl l) = lt-leb (a + 2 ^ 63) (b + 2 ^ 63) (omega arith) ∙ sym (lt-leb a b l)
    same (inr g) = le-leb (a + 2 ^ 63) (b + 2 ^ 63) (omega arith) ∙ sym (le-leb a b g)
signed_order (pos a) (negsuc b) h k = rw (stored_positive a, stored_negative b k) (lt-leb (a + 2 ^ 63) (2 ^ 63 - suc b) (omega arith))
signed_order (negsuc a) (pos b) h k = rw (stored_negative a h, stored_positive b) (le-leb (2 ^ 63 - suc a) (b + 2 ^ 63) (omega arith))
signed_order (negsuc a) (negsuc b) h k = rw (stored_negative a h, stored_negative b k) (same (below_or a b))
  where
    same : (a < b) ⊎ (b ≤ a) → leb (2 ^ 63 - suc a) (2 ^ 63 - suc b) ≡ leb b a
    same (inl l) = lt-leb (2 ^ 63 - suc a) (2 ^ 63 - suc b) (omega arith) ∙ sym (lt-leb b a l)
    same (inr g) = le-leb (2 ^ 63 - suc a) (2 ^ 63 - suc b) (omega arith) ∙ sym (le-leb b a g)

-- and the numbers read compare as the stored ones do
pub read_order : (u w : ℕ) → u < 2 ^ 64 → w < 2 ^ 64 → le_z (signed_of u) (signed_of w) ≡ leb u w
read_order u w h k =
    sym (signed_order (signed_of u) (signed_of w) (signed_in u h) (signed_in w k))
    ∙ ap (λ n. leb n (stored_signed (signed_of w))) (stored_back u h)
    ∙ ap (λ n. leb u n) (stored_back w k)

-- the least signed number is stored as 0, the greatest as 2^64 - 1
pub signed_ends : (stored_signed (negsuc (2 ^ 63 - 1)) ≡ 0) × (stored_signed (pos (2 ^ 63 - 1)) ≡ 2 ^ 64 - 1)
unfolding stored_signed
signed_ends = (refl, refl)

-- ---- signed numbers by their bits

-- storing is one sum modulo 2^64
pub bits_stored : (x : ℕ) → x < 2 ^ 64 → stored_signed (signed_bits x) ≡ mod_add x (2 ^ 63)
unfolding signed_bits
bits_stored x h = elim (below_or x (2 ^ 63)) [
  | inl l ↦ rw (lt-ltb x (2 ^ 63) l) (stored_positive x ∙ omega arith)
  | inr g ↦
      rw (le-ltb x (2 ^ 63) g)
      (ap stored_signed (sub_down x (2 ^ 64) h) ∙ stored_negative (2 ^ 64 - suc x) (omega arith) ∙ omega arith)
]

pub bits_in : (x : ℕ) → x < 2 ^ 64 → mag (signed_bits x) < 2 ^ 63
unfolding signed_bits
bits_in x h = elim (below_or x (2 ^ 63)) [
  | inl l ↦ rw (lt-ltb x (2 ^ 63) l) l
  | inr g ↦ rw (le-ltb x (2 ^ 63) g, sub_down x (2 ^ 64) h) (omega arith)
]

-- ---- bools

pub flag_fits : (b : Bool) → stored_flag b < 2 ^ 64
flag_fits true = omega arith
flag_fits false = omega arith

-- what was a bool returns
pub flag_back : (b : Bool) → flag_of (stored_flag b) ≡ b
flag_back true = refl
flag_back false = refl

-- true stays true for every greater stored number
pub flag_rises : (u w : ℕ) → u ≤ w → T (flag_of u) → T (flag_of w)
flag_rises u w h t = lt→ltb 0 w (lt_of_lt_of_le (ltb→lt 0 u t) h)

-- ---- floats, by the sign bit

pub stored_clear : (b : ℕ) → b < 2 ^ 63 → stored_float b ≡ b + 2 ^ 63
unfolding stored_float
stored_clear b h = rw (lt-ltb b (2 ^ 63) h)

pub stored-set : (b : ℕ) → 2 ^ 63 ≤ b → stored_float b ≡ 2 ^ 64 - 1 - b
unfolding stored_float
stored-set b h = rw (le-ltb b (2 ^ 63) h)

pub float_high : (u : ℕ) → 2 ^ 63 ≤ u → float_of u ≡ u - 2 ^ 63
unfolding float_of
float_high u h = rw (le-ltb u (2 ^ 63) h)

pub float_low : (u : ℕ) → u < 2 ^ 63 → float_of u ≡ 2 ^ 64 - 1 - u
unfolding float_of
float_low u h = rw (lt-ltb u (2 ^ 63) h)

pub float_fits : (b : ℕ) → b < 2 ^ 64 → stored_float b < 2 ^ 64
float_fits b h = elim (below_or b (2 ^ 63)) [
  | inl l ↦ rw (stored_clear b l) (omega arith)
  | inr g ↦ rw (stored-set b g) (omega arith)
]

pub float_in : (u : ℕ) → u < 2 ^ 64 → float_of u < 2 ^ 64
float_in u h = elim (below_or u (2 ^ 63)) [
  | inl l ↦ rw (float_low u l) (omega arith)
  | inr g ↦ rw (float_high u g) (omega arith)
]

-- all bits return, a NaN's too
pub float_back : (b : ℕ) → b < 2 ^ 64 → float_of (stored_float b) ≡ b
float_back b h = elim (below_or b (2 ^ 63)) [
  | inl l ↦ ap float_of (stored_clear b l) ∙ float_high (b + 2 ^ 63) (omega arith) ∙ omega arith
  | inr g ↦ ap float_of (stored-set b g) ∙ float_low (2 ^ 64 - 1 - b) (omega arith) ∙ omega arith
]

-- and every stored number is that of the bits which it reads as
pub bits_back : (u : ℕ) → u < 2 ^ 64 → stored_float (float_of u) ≡ u
bits_back u h = elim (below_or u (2 ^ 63)) [
  | inl l ↦ ap stored_float (float_low u l) ∙ stored-set (2 ^ 64 - 1 - u) (omega arith) ∙ omega arith
  | inr g ↦ ap stored_float (float_high u g) ∙ stored_clear (u - 2 ^ 63) (omega arith) ∙ omega arith
]

-- -0.0 is stored directly under +0.0
pub zeros_next : suc (stored_float (2 ^ 63)) ≡ stored_float 0
unfolding stored_float
zeros_next = refl
