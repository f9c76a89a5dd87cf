-- The stored numbers of floats that are no NaN compare as the floats do, with -0.0 under +0.0.
--     float_order      of two floats the smaller is stored as the smaller number
--     stored_order     stored numbers in order stand for floats in order
-- Assumes nothing.
use mathlib.Core.Path.{◌≡◌, refl, sym, ap, ◌∙◌, subst}
use mathlib.Core.Bool.{Bool, true, false, not, cond, ◌&&◌, ◌||◌, true≢false, false≢true}
use mathlib.Core.Logic.{◌⊎◌, inl, inr}
use Prim.Native.Nat.{ℕ, zero, suc, ◌+◌, ◌-◌, ◌*◌, ◌/◌, ◌%◌, ◌^◌, ◌≤◌, ◌<◌, min}
use native.Mathlib.Nat.{le_refl, le_trans, le_of_eq, lt_of_lt_of_le, lt_of_not-le, not-le_of_lt, eq-or-lt_of_le, zero-add, add_comm, mul_assoc, mul-le-mul, mul-le-mul_right, mul-le-mul_left, pow-succ'}
use native.Mathlib.Omega.{arith}
use lib.Dec.{T, leb, ltb, eqb, ltb→lt, nltb→le, leb→le, nleb→lt, eqb→eq, not_T}
use borrow.Author.Tests.{lt-ltb, le-ltb, eq-eqb}
use lib.Pow.{pow_pos, pow_mono, mod-mod-pow}
use lib.Ieee.{Float, nan, inf, fin, binary64, up, down, odd, of_fields, of_bits, nan_bits, is_nan, lt, le}
use lib.Ieee.Bits.{cond_no, nan_bits_above, nan_bits_is}
use lib.Ieee.Exact.{HasValue, odd_sign}
use lib.Ieee.Order.{transfer}
use Rattle.format.specs.Typed.{stored_float}
use Rattle.format.proofs.Lists.{below_or}
use Rattle.format.proofs.Mappings.{stored_clear, stored-set}

-- ---- a pattern m without its sign: the number in units of 2 ^ -1074, and the pattern of the infinity

abbrev field : ℕ → ℕ
field m = m / 2 ^ 52

abbrev digits : ℕ → ℕ
digits m = 2 ^ 52 * min (field m) 1 + m % 2 ^ 52

abbrev val : ℕ → ℕ
val m = digits m * 2 ^ (field m - 1)

abbrev top : ℕ
top = 2047 * 2 ^ 52

digits_twice : (m : ℕ) → 1 ≤ field m → digits m ≤ 2 ^ 52 * 2
digits_twice m h = omega arith

-- a larger pattern is a larger number
val_mono : (b c : ℕ) → b ≤ c → val b ≤ val c
val_mono b c h = go (eq-or-lt_of_le {n = field b} {m = field c} (omega arith))
  where
    same : field b ≡ field c → digits b ≤ digits c
    same e = omega arith

    lead : field b < field c → 2 ^ 52 ≤ digits c
    lead l = omega arith

    -- below: with no leading digit, or with one
    under : field b < field c → (field b < 1) ⊎ (1 ≤ field b) → val b ≤ 2 ^ 52 * 2 ^ (field c - 1)
    under l (inl z) = mul-le-mul {n₁ = digits b} {n₂ = 2 ^ 52} (omega arith) (pow_mono {i = field b - 1} {j = field c - 1} (omega arith))
    under l (inr o) =
        le_trans (mul-le-mul_right (2 ^ (field b - 1)) (digits_twice b o))
        (le_trans (le_of_eq (mul_assoc (2 ^ 52) 2 (2 ^ (field b - 1)) ∙ ap (λ (x : ℕ). 2 ^ 52 * x) (sym (pow-succ' 2 (field b - 1)))))
        (mul-le-mul_left (2 ^ 52) (pow_mono {i = suc (field b - 1)} {j = field c - 1} (omega arith))))

    go : (field b ≡ field c) ⊎ (field b < field c) → val b ≤ val c
    go (inl e) = subst (λ (x : ℕ). val b ≤ digits c * 2 ^ (x - 1)) e (mul-le-mul_right (2 ^ (field b - 1)) (same e))
    go (inr l) = le_trans (under l (below_or (field b) 1)) (mul-le-mul_right (2 ^ (field c - 1)) (lead l))

-- ---- what a pattern stands for, by its sign s and the rest m

differ : (x : ℕ) → suc x < 2047 → suc x ≡ 2047 → ⊥
differ x h e = omega arith

fields_value : (s : Bool) (x t : ℕ) → x < 2047 → HasValue (of_fields binary64 s x t) s ((2 ^ 52 * min x 1 + t) * 2 ^ (x - 1)) (2 ^ 1074)
unfolding of_fields
fields_value s zero t h = subst (λ (n : ℕ). HasValue (odd 53 s t 0 1074) s n (2 ^ 1074)) (ap (λ (z : ℕ). z * 1) (sym (zero-add t))) (odd_sign 53 s t 0 1074)
fields_value s (suc x) t h =
    let normal : cond (eqb (suc x) 2047) (cond (eqb t 0) (inf s) nan) (odd 53 s (2 ^ 52 + t) x 1074) ≡ odd 53 s (2 ^ 52 + t) x 1074 =
    cond_no (eqb (suc x) 2047) (cond (eqb t 0) (inf s) nan) (odd 53 s (2 ^ 52 + t) x 1074) (not_T (eqb (suc x) 2047) (λ u. differ x h (eqb→eq (suc x) 2047 u))) in
    let d : 2 ^ 52 * min (suc x) 1 + t ≡ 2 ^ 52 + t = omega arith in
    let k : suc x - 1 ≡ x = omega arith in
    subst (λ (y : Float). HasValue y s ((2 ^ 52 * min (suc x) 1 + t) * 2 ^ (suc x - 1)) (2 ^ 1074)) (sym normal)
    (rw (d, k) (odd_sign 53 s (2 ^ 52 + t) x 1074))

-- a finite number by its value, or the infinity
abbrev Kind : Bool → ℕ → Float → Type 0
Kind s m x = ((m < top) × HasValue x s (val m) (2 ^ 1074)) ⊎ ((m ≡ top) × (x ≡ inf s))

infinity : (s : Bool) → of_fields binary64 s 2047 0 ≡ inf s
unfolding of_fields
infinity s = refl

fields_kind : (s : Bool) (m : ℕ) → m ≤ top → Kind s m (of_fields binary64 s (m / 2 ^ 52) (m % 2 ^ 52))
fields_kind s m h = go (eq-or-lt_of_le h)
  where
    go : (m ≡ top) ⊎ (m < top) → Kind s m (of_fields binary64 s (m / 2 ^ 52) (m % 2 ^ 52))
    go (inl e) = inr (e, ap (λ (n : ℕ). of_fields binary64 s (n / 2 ^ 52) (n % 2 ^ 52)) e ∙ infinity s)
    go (inr l) = inl (l, fields_value s (m / 2 ^ 52) (m % 2 ^ 52) (omega arith))

bits_is : (b : ℕ) → of_bits binary64 b ≡ of_fields binary64 (leb (2 ^ 63) b) (b % 2 ^ 63 / 2 ^ 52) (b % 2 ^ 63 % 2 ^ 52)
unfolding of_bits
bits_is b = ap (λ (t : ℕ). of_fields binary64 (leb (2 ^ 63) b) (b % 2 ^ 63 / 2 ^ 52) t) (sym (mod-mod-pow b 11 52))

pub kind : (b : ℕ) → T (not (nan_bits binary64 b)) → Kind (leb (2 ^ 63) b) (b % 2 ^ 63) (of_bits binary64 b)
kind b n =
    subst (λ (x : Float). Kind (leb (2 ^ 63) b) (b % 2 ^ 63) x) (sym (bits_is b))
    (fields_kind (leb (2 ^ 63) b) (b % 2 ^ 63) (nltb→le top (b % 2 ^ 63) (subst (λ (t : Bool). T (not t)) (nan_bits_above binary64 b) n)))

-- ---- the order of two floats of one sign is that of their patterns, or the reverse

-- of fractions x / d and y / e with the values p and q in the same units
fractions : (x d y e p q : ℕ) → x * 2 ^ 1074 ≡ p * d → y * 2 ^ 1074 ≡ q * e → p ≤ q → x * e ≤ y * d
fractions x d y e p q h k l = transfer x y d e p q (2 ^ 1074) (2 ^ 1074) (pow_pos 1074) (pow_pos 1074) h k (mul-le-mul_right (2 ^ 1074) l)

-- nothing lies above the infinity, or below the negative one
none_above : (y : Float) → T (lt (inf false) y) → ⊥
unfolding lt
none_above (inf s) t = t
none_above (fin s n d) t = t
none_above nan t = elim t [ ]

none_below : (x : Float) → T (lt x (inf true)) → ⊥
unfolding lt
none_below (inf true) t = t
none_below (fin s m e) t = t
none_below nan t = elim t [ ]
none_below (inf false) t = elim t [ ]

finite_plus : (a b : ℕ) (x y : Float) → HasValue x false (val a) (2 ^ 1074) → HasValue y false (val b) (2 ^ 1074) → T (lt x y) → a < b
unfolding lt
finite_plus a b (fin true m e) y k l t = absurd (true≢false k.0)
finite_plus a b (fin false m e) (fin true n d) k l t = absurd (true≢false l.0)
finite_plus a b (fin false m e) (fin false n d) k l t =
    lt_of_not-le (λ (g : b ≤ a). not-le_of_lt (ltb→lt (m * up e * down d) (n * up d * down e) t)
    (fractions (n * up d) (down d) (m * up e) (down e) (val b) (val a) l.1 k.1 (val_mono b a g)))
finite_plus a b nan y k l t = elim k [ ]
finite_plus a b (inf _) y k l t = elim k [ ]
finite_plus a b (fin false m e) nan k l t = elim l [ ]
finite_plus a b (fin false m e) (inf _) k l t = elim l [ ]

finite_minus : (a b : ℕ) (x y : Float) → HasValue x true (val a) (2 ^ 1074) → HasValue y true (val b) (2 ^ 1074) → T (lt x y) → b < a
unfolding lt
finite_minus a b (fin false m e) y k l t = absurd (false≢true k.0)
finite_minus a b (fin true m e) (fin false n d) k l t = absurd (false≢true l.0)
finite_minus a b (fin true m e) (fin true n d) k l t =
    lt_of_not-le (λ (g : a ≤ b). not-le_of_lt (ltb→lt (n * up d * down e) (m * up e * down d) t)
    (fractions (m * up e) (down e) (n * up d) (down d) (val a) (val b) k.1 l.1 (val_mono a b g)))
finite_minus a b nan y k l t = elim k [ ]
finite_minus a b (inf _) y k l t = elim k [ ]
finite_minus a b (fin true m e) nan k l t = elim l [ ]
finite_minus a b (fin true m e) (inf _) k l t = elim l [ ]

finite_apart : (p q : ℕ) (x y : Float) → HasValue x false p (2 ^ 1074) → HasValue y true q (2 ^ 1074) → T (lt x y) → ⊥
unfolding lt
finite_apart p q (fin true m e) y k l t = absurd (true≢false k.0)
finite_apart p q (fin false m e) (fin false n d) k l t = absurd (false≢true l.0)
finite_apart p q (fin false m e) (fin true n d) k l t = t
finite_apart p q nan y k l t = elim k [ ]
finite_apart p q (inf _) y k l t = elim k [ ]
finite_apart p q (fin false m e) nan k l t = elim l [ ]
finite_apart p q (fin false m e) (inf _) k l t = elim l [ ]

both_plus : (a b : ℕ) (x y : Float) → Kind false a x → Kind false b y → T (lt x y) → a < b
both_plus a b x y (inl k) (inl l) t = finite_plus a b x y k.1 l.1 t
both_plus a b x y (inl k) (inr l) t = lt_of_lt_of_le k.0 (le_of_eq (sym l.0))
both_plus a b x y (inr k) l t = absurd (none_above y (subst (λ (z : Float). T (lt z y)) k.1 t))

both_minus : (a b : ℕ) (x y : Float) → Kind true a x → Kind true b y → T (lt x y) → b < a
both_minus a b x y (inl k) (inl l) t = finite_minus a b x y k.1 l.1 t
both_minus a b x y (inr k) (inl l) t = lt_of_lt_of_le l.0 (le_of_eq (sym k.0))
both_minus a b x y k (inr l) t = absurd (none_below x (subst (λ (z : Float). T (lt x z)) l.1 t))

apart : (a b : ℕ) (x y : Float) → Kind false a x → Kind true b y → T (lt x y) → ⊥
apart a b x y (inl k) (inl l) t = finite_apart (val a) (val b) x y k.1 l.1 t
apart a b x y (inr k) l t = none_above y (subst (λ (z : Float). T (lt z y)) k.1 t)
apart a b x y (inl k) (inr l) t = none_below x (subst (λ (z : Float). T (lt x z)) l.1 t)

-- ---- "the mapping must keep order"

-- of two floats that are no NaN the smaller is stored as the smaller number
pub float_order : (a b : ℕ) → a < 2 ^ 64 → b < 2 ^ 64 → T (not (nan_bits binary64 a)) → T (not (nan_bits binary64 b)) → T (lt (of_bits binary64 a) (of_bits binary64 b)) → stored_float a < stored_float b
float_order a b h k m n t =
    go (leb (2 ^ 63) a) (leb (2 ^ 63) b) (leb→le (2 ^ 63) a) (nleb→lt (2 ^ 63) a) (leb→le (2 ^ 63) b) (nleb→lt (2 ^ 63) b) (kind a m) (kind b n)
  where
    go : (s r : Bool) → (T s → 2 ^ 63 ≤ a) → (T (not s) → a < 2 ^ 63) → (T r → 2 ^ 63 ≤ b) → (T (not r) → b < 2 ^ 63) → Kind s (a % 2 ^ 63) (of_bits binary64 a) → Kind r (b % 2 ^ 63) (of_bits binary64 b) → stored_float a < stored_float b
    go false false p q u v i j =
        let below = both_plus (a % 2 ^ 63) (b % 2 ^ 63) (of_bits binary64 a) (of_bits binary64 b) i j t in
        let q' = q tt in let v' = v tt in
        rw (stored_clear a q', stored_clear b v') (omega arith)
    go false true p q u v i j = absurd (apart (a % 2 ^ 63) (b % 2 ^ 63) (of_bits binary64 a) (of_bits binary64 b) i j t)
    go true false p q u v i j =
        let p' = p tt in let v' = v tt in
        rw (stored-set a p', stored_clear b v') (omega arith)
    go true true p q u v i j =
        let below = both_minus (a % 2 ^ 63) (b % 2 ^ 63) (of_bits binary64 a) (of_bits binary64 b) i j t in
        let p' = p tt in let u' = u tt in
        rw (stored-set a p', stored-set b u') (omega arith)

-- ---- two numbers, of which the second is not below the first

or_le : (a b : ℕ) → a ≤ b → T (ltb a b || (eqb a b && true)) × T (ltb a b || (eqb b a && true))
or_le a b h = go (eq-or-lt_of_le h)
  where
    go : (a ≡ b) ⊎ (a < b) → T (ltb a b || (eqb a b && true)) × T (ltb a b || (eqb b a && true))
    go (inl e) = rw (e, le-ltb b b (le_refl b), eq-eqb b b refl) (tt, tt)
    go (inr l) = rw (lt-ltb a b l) (tt, tt)

both_zero : (a b : ℕ) → T (not (ltb 0 (b + a))) → T (eqb a b && (false || eqb a 0))
both_zero a b t =
    let z = nltb→le 0 (b + a) t in
    let p : a ≡ 0 = omega arith in
    let q : b ≡ 0 = omega arith in
    rw (p, q) tt

sum-or_zero : (a b : ℕ) → T (ltb 0 (a + b) || (eqb a b && (false || eqb a 0)))
sum-or_zero a b = go (ltb 0 (a + b)) (λ u. both_zero a b (subst (λ (n : ℕ). T (not (ltb 0 n))) (add_comm a b) u))
  where
    go : (t : Bool) → (T (not t) → T (eqb a b && (false || eqb a 0))) → T (t || (eqb a b && (false || eqb a 0)))
    go true h = tt
    go false h = h tt

not_below : (x y : Float) → T (not (is_nan x)) → T (not (is_nan y)) → T (not (lt y x)) → T (le x y)
unfolding lt le is_nan
not_below (inf true) (inf true) m n t = tt
not_below (inf true) (inf false) m n t = tt
not_below (inf false) (inf true) m n t = t
not_below (inf false) (inf false) m n t = tt
not_below (inf true) (fin s b d) m n t = tt
not_below (inf false) (fin s b d) m n t = t
not_below (fin s a e) (inf true) m n t = t
not_below (fin s a e) (inf false) m n t = tt
not_below (fin false a e) (fin false b d) m n t = (or_le (a * up e * down d) (b * up d * down e) (nltb→le (b * up d * down e) (a * up e * down d) t)).0
not_below (fin false a e) (fin true b d) m n t = both_zero (a * up e * down d) (b * up d * down e) t
not_below (fin true a e) (fin false b d) m n t = sum-or_zero (a * up e * down d) (b * up d * down e)
not_below (fin true a e) (fin true b d) m n t = (or_le (b * up d * down e) (a * up e * down d) (nltb→le (a * up e * down d) (b * up d * down e) t)).1
not_below nan y m n t = elim m [ ]
not_below (inf false) nan m n t = elim n [ ]
not_below (inf true) nan m n t = elim n [ ]
not_below (fin s a e) nan m n t = elim n [ ]

-- and stored numbers in order stand for floats in order; only -0.0 and +0.0 are stored apart and equal
pub stored_order : (a b : ℕ) → a < 2 ^ 64 → b < 2 ^ 64 → T (not (nan_bits binary64 a)) → T (not (nan_bits binary64 b)) → stored_float a ≤ stored_float b → T (le (of_bits binary64 a) (of_bits binary64 b))
stored_order a b h k m n l =
    not_below (of_bits binary64 a) (of_bits binary64 b) (subst (λ (t : Bool). T (not t)) (nan_bits_is binary64 a) m) (subst (λ (t : Bool). T (not t)) (nan_bits_is binary64 b) n)
    (not_T (lt (of_bits binary64 b) (of_bits binary64 a)) (λ u. not-le_of_lt (float_order b a k h n m u) l))
