-- What f32 makes of whole numbers, beside the format's own definitions: values of floats that round, compare and are divided by 8.
--     f32_value                   a whole number as f32 is `in_f32` of it
--     reaches_is                  an f32 beside one of some bits is `reaches`
--     product_value, eighth_value, cut_is     the saving's two steps and the cut
--     cut_above, cut_below        the cut is defined
-- Assumes nothing.
use Rattle.std.proofs.Common.{◌≡◌, ℕ, suc, ◌+◌, ◌-◌, ◌*◌, ◌/◌, ◌%◌, ◌^◌, ◌<◌, ◌≤◌, min, Bool, true, false, ◌&&◌, ◌||◌, T, eqb, ltb, leb, pos, sym, refl, ap, ◌∙◌, subst, ⊎_elim, true≢false, le_trans, le_of_eq, le_refl, lt_of_lt_of_le, lt_of_le_of_lt, le_of_lt, lt_irrefl, mul-le-mul_right, zero-lt-suc, mul_assoc, mul_comm, eq-or-lt_of_le, mul-lt-mul_of_pos_right, mul-pos, one-mul, lt_of_not-le, mul-one, mul_right_comm, not-le_of_lt, div-one, arith, lit<, lit≤, lt→ltb, pow_pos, pow_mono, pow-add, shl_lt, shr_lt, ltb-true, le-ltb, lt-ltb, eq-eqb, ne_eqb, le-leb, leb-true}
use Prim.Native.Nat.{compare, Ordering}
use native.Mathlib.Nat.{eq_of_mul-eq-mul_right}
use lib.Pow.{pow-lt}
use lib.Ieee.{Float, nan, inf, fin, binary32, up, down, size, nearest, round, mul, div, lt, le, eq, of_int, of_bits, of_fields, to_unsigned}
use lib.Ieee.Digits.{size-lt, size-le}
use lib.Ieee.Fits.{down_pos}
use lib.Ieee.Exact.{HasValue, odd_sign, round_exact}
use lib.Ieee.Back.{round_whole}
use lib.Ieee.Nearest.{closest, closest_same, div_same}
use lib.Ieee.Order.{transfer}
use lib.Ieee.Scale.{grid, round_val, round_same}
use borrow.Author.Tests.{lt-leb}
use Rattle.format.specs.Outcome.{pick}
use Rattle.format.specs.Packing.{bit_length}
use Rattle.format.specs.Saving as saving
use Rattle.format.specs.Saving.{in_f32, reaches}
use Rattle.format.proofs.Lists.{below_or}
use Rattle.format.proofs.Widths.{bit_length_above, bit_length_tight, bit_length_most}
use Rattle.format.proofs.Savings.{in_f32_exact, in_f32_most, sound}
use Rattle.float.proofs.Marks.{compare_lt, compare_gt, compare_eq}
use Rattle.float.proofs.Values.{mul_values}

-- ---- the nearest whole number

-- below, at and above a half
rounds : (q a u : ℕ) → pick (ltb a u) q (pick (ltb u a) (q + 1) (q + q % 2)) ≡ nearest q (compare a u)
rounds q a u =
    ⊎_elim
    (λ (l : a < u). rw (lt-ltb a u l, compare_lt a u l))
    (λ (g : u ≤ a). ⊎_elim
    (λ (e : u ≡ a). rw (← e, le-ltb u u (le_refl u), compare_eq u))
    (λ (l : u < a). rw (le-ltb a u g, lt-ltb u a l, compare_gt a u l) (omega arith))
    (eq-or-lt_of_le g))
    (below_or a u)

pub nearest_is : (n u : ℕ) → saving.nearest n u ≡ closest n u
unfolding saving.nearest
nearest_is n u = rw (mul_comm 2 (n % u)) (rounds (n / u) (n % u * 2) u)

-- ---- a whole number as f32

-- the value of a float as another fraction of the same size
rescaled : (x : Float) (a c b d : ℕ) → 0 < c → b * c ≡ a * d → HasValue x false a c → HasValue x false b d
rescaled nan a c b d C e v = v
rescaled (inf t) a c b d C e v = v
rescaled (fin t m g) a c b d C e v = (
  v.0,
  eq_of_mul-eq-mul_right c C (m * up g * d) (b * down g)
      (mul_right_comm (m * up g) d c
      ∙ ap (λ (z : ℕ). z * d) v.1
      ∙ mul_right_comm a (down g) d
      ∙ ap (λ (z : ℕ). z * down g) (sym e)
      ∙ mul_right_comm b c (down g)),
)

-- a number of c bits has that many digits, and 149 more in units of the smallest f32
size_is : (m b c : ℕ) → c ≡ b + 1 → 2 ^ b ≤ m → m < 2 ^ c → size m ≡ c
size_is m b c e low high =
    let over : b < size m = lt_of_not-le (λ (g : size m ≤ b). not-le_of_lt (lt_of_lt_of_le (size-lt m) (pow_mono g)) low) in
    omega (arith, size-le m c high)

size_units : (n b c : ℕ) → c ≡ b + 1 → 2 ^ b ≤ n → n < 2 ^ c → size (n * 2 ^ 149) ≡ c + 149
size_units n b c e low high =
    size_is (n * 2 ^ 149) (b + 149) (c + 149) (omega arith)
    (le_trans (le_of_eq (pow-add 2 b 149)) (mul-le-mul_right (2 ^ 149) low))
    (shl_lt c 149 high)

-- of a number of more than 24 bits the rounding unit is 2 ^ t
grid_is : (n t : ℕ) → 2 ^ (23 + t) ≤ n → n < 2 ^ (24 + t) → grid binary32 n 1 ≡ closest n (2 ^ t) * 2 ^ t * 2 ^ 149
grid_is n t low high =
    let m = n * 2 ^ 149 in
    let dropped : size (m / 1) - 24 ≡ t + 149 = ap (λ (z : ℕ). size z - 24) (div-one m) ∙ ap (λ (z : ℕ). z - 24) (size_units n (23 + t) (24 + t) (omega arith) low high) ∙ omega arith in
    ap (λ (k : ℕ). closest m (1 * 2 ^ k) * 2 ^ k) dropped
    ∙ ap (λ (z : ℕ). z * 2 ^ (t + 149)) (closest_same m (1 * 2 ^ (t + 149)) n (2 ^ t) (mul-pos (zero-lt-suc 0) (pow_pos (t + 149))) (pow_pos t) same)
    ∙ ap (λ (z : ℕ). closest n (2 ^ t) * z) (pow-add 2 t 149)
    ∙ sym (mul_assoc (closest n (2 ^ t)) (2 ^ t) (2 ^ 149))
  where
    same : n * 2 ^ 149 * 2 ^ t ≡ n * (1 * 2 ^ (t + 149))
    same = mul_assoc n (2 ^ 149) (2 ^ t) ∙ ap (λ (z : ℕ). n * z) (mul_comm (2 ^ 149) (2 ^ t) ∙ sym (pow-add 2 t 149) ∙ sym (one-mul (2 ^ (t + 149))))

-- how many units there are
nearest_most : (q : ℕ) (o : Ordering) → nearest q o ≤ q + 1
nearest_most q Ordering.lt = omega arith
nearest_most q Ordering.eq = omega arith
nearest_most q Ordering.gt = omega arith

closest_most : (n t : ℕ) → n < 2 ^ (24 + t) → closest n (2 ^ t) ≤ 2 ^ 24
closest_most n t h =
    let q : n / 2 ^ t < 2 ^ 24 = shr_lt 24 t h in
    omega (arith, nearest_most (n / 2 ^ t) (compare (n % 2 ^ t * 2) (2 ^ t)))

-- a number of more than 24 bits, and a shorter one
wide_value : (n t : ℕ) → t ≤ 76 → 2 ^ (23 + t) ≤ n → n < 2 ^ (24 + t) → HasValue (round binary32 false n 1) false (closest n (2 ^ t) * 2 ^ t) 1
wide_value n t few low high =
    let units = closest n (2 ^ t) * 2 ^ t in
    let is = grid_is n t low high in
    let small : units * 2 ^ 149 < 2 ^ (128 + 149) = shl_lt 128 149 (under units (le_trans (mul-le-mul_right (2 ^ t) (closest_most n t high)) (le_trans (le_of_eq (sym (pow-add 2 24 t))) (pow_mono {j = 100} (omega arith))))) in
    rescaled (round binary32 false n 1) (units * 2 ^ 149) (2 ^ 149) units 1 (pow_pos 149) (sym (mul-one (units * 2 ^ 149)))
    (subst (λ (z : ℕ). HasValue (round binary32 false n 1) false z (2 ^ 149)) is
    (round_val binary32 n 1 (subst (λ (z : ℕ). z < 2 ^ 277) (sym is) small)))
  where
    under : (z : ℕ) → z ≤ 2 ^ 100 → z < 2 ^ 128
    under z h = lt_of_le_of_lt h (pow-lt {i = 100} {j = 128} (lit≤ tt))

-- the rounding unit's exponent, by the bit length
unit_low : (n b : ℕ) → 24 ≤ b → 2 ^ b ≤ 2 * n + 1 → 2 ^ (23 + (b - 24)) ≤ n
unit_low n b h g =
    let e : b ≡ 23 + (b - 24) + 1 = omega arith in
    half (23 + (b - 24)) (subst (λ (k : ℕ). 2 ^ k ≤ 2 * n + 1) e g)
  where
    half : (k : ℕ) → 2 ^ (k + 1) ≤ 2 * n + 1 → 2 ^ k ≤ n
    half k h = omega (arith, pow-add 2 k 1)

pub f32_value : (n : ℕ) → n < 2 ^ 100 → HasValue (round binary32 false n 1) false (in_f32 n) 1
unfolding in_f32
f32_value n h = ⊎_elim narrow wide (below_or (bit_length n) 25)
  where
    narrow : bit_length n < 25 → HasValue (round binary32 false n 1) false (in_f32 n) 1
    narrow l =
        let small : n < 2 ^ 24 = lt_of_lt_of_le (bit_length_above n) (pow_mono {j = 24} (omega arith)) in
        subst (λ (z : ℕ). HasValue (round binary32 false n 1) false z 1) (sym (in_f32_exact n small)) (round_whole binary32 false n (le_of_lt small))

    wide : 25 ≤ bit_length n → HasValue (round binary32 false n 1) false (in_f32 n) 1
    wide g =
        let t = bit_length n - 24 in
        let most : bit_length n < 101 = lt_of_not-le (λ (k : 101 ≤ bit_length n). omega (arith, pow_mono k, bit_length_tight n)) in
        let bits : bit_length n ≡ 24 + t = omega arith in
        subst (λ (z : ℕ). HasValue (round binary32 false n 1) false (z * 2 ^ t) 1) (sym (nearest_is n (2 ^ t)))
        (wide_value n t (omega arith) (unit_low n (bit_length n) (omega arith) (bit_length_tight n)) (subst (λ (k : ℕ). n < 2 ^ k) bits (bit_length_above n)))

-- ---- comparing

-- `le`'s two tests are one
at_most : (a b : ℕ) → (ltb a b || (eqb a b && true)) ≡ leb a b
at_most a b =
    ⊎_elim
    (λ (l : a < b). rw (lt-ltb a b l, le-leb a b (le_of_lt l)))
    (λ (g : b ≤ a). ⊎_elim
    (λ (e : b ≡ a). rw (← e, le-ltb b b (le_refl b), eq-eqb b b refl, le-leb b b (le_refl b)))
    (λ (l : b < a). rw (le-ltb a b g, ne_eqb a b (λ (e : a ≡ b). lt_irrefl b (subst (λ (z : ℕ). b < z) e l)), lt-leb a b l))
    (eq-or-lt_of_le g))
    (below_or a b)

-- tests of two orders that follow from each other
leb_same : (p q r s : ℕ) → (p ≤ q → r ≤ s) → (r ≤ s → p ≤ q) → leb p q ≡ leb r s
leb_same p q r s to back =
    ⊎_elim
    (λ (l : q < p). lt-leb p q l ∙ sym (lt-leb r s (lt_of_not-le (λ (g : r ≤ s). not-le_of_lt l (back g)))))
    (λ (g : p ≤ q). le-leb p q g ∙ sym (le-leb r s (to g)))
    (below_or q p)

-- floats compare as their values
le_values : (x y : Float) (a c b d : ℕ) → 0 < c → 0 < d → HasValue x false a c → HasValue y false b d → le x y ≡ leb (a * d) (b * c)
unfolding le lt eq
le_values (fin true m e) y a c b d C D v w = absurd (true≢false v.0)
le_values (fin false m e) (fin true n g) a c b d C D v w = absurd (true≢false w.0)
le_values (fin false m e) (fin false n g) a c b d C D v w =
    at_most (m * up e * down g) (n * up g * down e)
    ∙ leb_same (m * up e * down g) (n * up g * down e) (a * d) (b * c)
    (transfer a b c d (m * up e) (n * up g) (down e) (down g) (down_pos e) (down_pos g) (sym v.1) (sym w.1))
    (transfer (m * up e) (n * up g) (down e) (down g) a b c d C D v.1 w.1)
le_values nan y a c b d C D v w = elim v [ ]
le_values (inf _) y a c b d C D v w = elim v [ ]
le_values (fin false m e) nan a c b d C D v w = elim w [ ]
le_values (fin false m e) (inf _) a c b d C D v w = elim w [ ]

-- the f32 of some sound bits: 24 bits and an exponent
fields_value : (x t : ℕ) → x < 254 → HasValue (of_fields binary32 false (suc x) t) false ((2 ^ 23 + t) * 2 ^ x) (2 ^ 149)
unfolding of_fields
fields_value x t h = rw (ne_eqb (suc x) 255 (λ (e : suc x ≡ 255). omega arith)) (odd_sign 24 false (2 ^ 23 + t) x 149)

pub bits_value : (bits : ℕ) → sound bits ≡ true → HasValue (of_bits binary32 bits) false ((2 ^ 23 + bits % 2 ^ 23) * 2 ^ (bits / 2 ^ 23)) (2 ^ 150)
unfolding of_bits
bits_value bits s =
    let low = least (leb (2 ^ 23) bits) (ltb bits (255 * 2 ^ 23)) refl s in
    let high = most (leb (2 ^ 23) bits) (ltb bits (255 * 2 ^ 23)) refl s in
    let x = bits / 2 ^ 23 - 1 in
    let field : bits % 2 ^ 31 / 2 ^ 23 ≡ suc x = omega arith in
    let plus : leb (2 ^ 31) bits ≡ false = lt-leb (2 ^ 31) bits (omega arith) in
    let m = 2 ^ 23 + bits % 2 ^ 23 in
    rescaled (of_bits binary32 bits) (m * 2 ^ x) (2 ^ 149) (m * 2 ^ (bits / 2 ^ 23)) (2 ^ 150) (pow_pos 149) (doubled m x (bits / 2 ^ 23) (omega arith))
    (rw (plus, field) (fields_value x (bits % 2 ^ 23) (omega arith)))
  where
    least : (t u : Bool) → leb (2 ^ 23) bits ≡ t → pick t u false ≡ true → 2 ^ 23 ≤ bits
    least true u e s = leb-true (2 ^ 23) bits e
    least false u e s = absurd (true≢false (sym s))

    most : (t u : Bool) → ltb bits (255 * 2 ^ 23) ≡ u → pick t u false ≡ true → bits < 255 * 2 ^ 23
    most true u e s = ltb-true bits (255 * 2 ^ 23) (e ∙ s)
    most false u e s = absurd (true≢false (sym s))

    doubled : (m x e : ℕ) → e ≡ x + 1 → m * 2 ^ e * 2 ^ 149 ≡ m * 2 ^ x * 2 ^ 150
    doubled m x e h =
        ap (λ (k : ℕ). m * 2 ^ k * 2 ^ 149) h
        ∙ ap (λ (z : ℕ). m * z * 2 ^ 149) (pow-add 2 x 1)
        ∙ ap (λ (z : ℕ). z * 2 ^ 149) (sym (mul_assoc m (2 ^ x) 2))
        ∙ mul_assoc (m * 2 ^ x) 2 (2 ^ 149)

-- whether a rounded number reaches a bound, by its bits
pub reaches_is : (n bits : ℕ) → n < 2 ^ 100 → sound bits ≡ true → le (of_bits binary32 bits) (of_int binary32 (pos n)) ≡ reaches (in_f32 n) bits
unfolding reaches of_int
reaches_is n bits h s =
    let m = (2 ^ 23 + bits % 2 ^ 23) * 2 ^ (bits / 2 ^ 23) in
    le_values (of_bits binary32 bits) (round binary32 false n 1) m (2 ^ 150) (in_f32 n) 1 (pow_pos 150) (zero-lt-suc 0) (bits_value bits s) (f32_value n h)
    ∙ ap (λ (z : ℕ). leb z (in_f32 n * 2 ^ 150)) (mul-one m)

-- ---- the saving's product

-- before it is rounded it stays small
pub product_few : (e rows : ℕ) → e ≤ 64 → rows < 2 ^ 32 → e * in_f32 rows < 2 ^ 42
product_few e rows few h = omega (arith, mul-le-mul_right (in_f32 rows) few, in_f32_most rows)

pub product_value : (e rows : ℕ) → e ≤ 64 → rows < 2 ^ 32
    → HasValue (mul binary32 (of_int binary32 (pos e)) (of_int binary32 (pos rows))) false (in_f32 (e * in_f32 rows)) 1
unfolding of_int
product_value e rows few h =
    subst (λ (x : Float). HasValue x false (in_f32 (e * in_f32 rows)) 1)
    (sym (mul_values binary32 (round binary32 false e 1) (round binary32 false rows 1) e 1 (in_f32 rows) 1 (zero-lt-suc 0) (zero-lt-suc 0)
    (round_whole binary32 false e (omega arith)) (f32_value rows (lt_of_lt_of_le h (pow_mono {i = 32} {j = 100} (lit≤ tt))))))
    (f32_value (e * in_f32 rows) (lt_of_lt_of_le (product_few e rows few h) (pow_mono {i = 42} {j = 100} (lit≤ tt))))

-- ---- its eighth

eighth : (x : Float) (p : ℕ) → HasValue x false p 1 → div binary32 x (fin false 1 (pos 3)) ≡ round binary32 false p 8
unfolding div
eighth (fin true m e) p v = absurd (true≢false v.0)
eighth (fin false m e) p v =
    round_same binary32 false (m * up e * 1) (8 * down e) p 8 (mul-pos (zero-lt-suc 7) (down_pos e)) (zero-lt-suc 7)
    (ap (λ (z : ℕ). z * 8) v.1 ∙ mul_assoc p (down e) 8 ∙ ap (λ (z : ℕ). p * z) (mul_comm (down e) 8))
eighth nan p v = elim v [ ]
eighth (inf _) p v = elim v [ ]

-- fewer than 2 ^ 24 units, and just so many
eighth_few : (q t : ℕ) → q < 2 ^ 24 → t ≤ 100 → HasValue (round binary32 false (q * 2 ^ t) 8) false (q * 2 ^ t) 8
eighth_few q t small few =
    round_exact binary32 false (q * 2 ^ t) 8 q (t + 146) (zero-lt-suc 7) small
    (lt_of_lt_of_le (shl_lt 24 (t + 146) small) (pow_mono {j = 277} (omega arith)))
    (mul_assoc q (2 ^ t) (2 ^ 149) ∙ ap (λ (z : ℕ). q * z) (sym (mul_assoc (2 ^ t) (2 ^ 146) 8) ∙ ap (λ (z : ℕ). z * 8) (sym (pow-add 2 t 146))) ∙ sym (mul_assoc q (2 ^ (t + 146)) 8))

eighth_units : (q t : ℕ) → q ≤ 2 ^ 24 → t ≤ 76 → HasValue (round binary32 false (q * 2 ^ t) 8) false (q * 2 ^ t) 8
eighth_units q t small few = ⊎_elim full (λ (l : q < 2 ^ 24). eighth_few q t l (omega arith)) (eq-or-lt_of_le small)
  where
    full : q ≡ 2 ^ 24 → HasValue (round binary32 false (q * 2 ^ t) 8) false (q * 2 ^ t) 8
    full e =
        let whole : 1 * 2 ^ (24 + t) ≡ q * 2 ^ t = one-mul (2 ^ (24 + t)) ∙ pow-add 2 24 t ∙ ap (λ (z : ℕ). z * 2 ^ t) (sym e) in
        subst (λ (p : ℕ). HasValue (round binary32 false p 8) false p 8) whole (eighth_few 1 (24 + t) (lit< tt) (omega arith))

-- an eighth of a rounded number has its bits
pub eighth_value : (x : Float) (n : ℕ) → n < 2 ^ 64 → HasValue x false (in_f32 n) 1 → HasValue (div binary32 x (fin false 1 (pos 3))) false (in_f32 n) 8
unfolding in_f32
eighth_value x n h v =
    let t = bit_length n - 24 in
    let bits : n < 2 ^ (24 + t) = lt_of_lt_of_le (bit_length_above n) (pow_mono {j = 24 + t} (omega arith)) in
    subst (λ (y : Float). HasValue y false (in_f32 n) 8) (sym (eighth x (in_f32 n) v))
    (eighth_units (saving.nearest n (2 ^ t)) t (subst (λ (q : ℕ). q ≤ 2 ^ 24) (sym (nearest_is n (2 ^ t))) (closest_most n t bits)) (omega (arith, bit_length_most n h)))

-- ---- the cut to a whole number

pub cut_is : (x : Float) (p : ℕ) → p < 2 ^ 64 → HasValue x false p 8 → to_unsigned 64 x ≡ p / 8
unfolding to_unsigned
cut_is (fin true m e) p h v = absurd (true≢false v.0)
cut_is (fin false m e) p h v = capped (m * up e / down e) p h (div_same (m * up e) (down e) p 8 (down_pos e) (zero-lt-suc 7) v.1)
  where
    capped : (q p : ℕ) → p < 2 ^ 64 → q ≡ p / 8 → min q (2 ^ 64 - 1) ≡ p / 8
    capped q p h e = omega arith
cut_is nan p h v = elim v [ ]
cut_is (inf _) p h v = elim v [ ]

-- it is defined: the number is above -1 and below 2 ^ 64
pub cut_above : (x : Float) (p : ℕ) → HasValue x false p 8 → T (lt (fin true 1 (pos 0)) x)
unfolding lt
cut_above (fin true m e) p v = absurd (true≢false v.0)
cut_above (fin false m e) p v = lt→ltb 0 (1 * 1 * down e + m * up e * 1) (some (down e) (m * up e) (down_pos e))
  where
    some : (d n : ℕ) → 0 < d → 0 < 1 * 1 * d + n * 1
    some d n p = omega arith
cut_above nan p v = elim v [ ]
cut_above (inf _) p v = elim v [ ]

pub cut_below : (x : Float) (p : ℕ) → p < 2 ^ 64 → HasValue x false p 8 → T (lt x (fin false 1 (pos 64)))
unfolding lt
cut_below (fin true m e) p h v = absurd (true≢false v.0)
cut_below (fin false m e) p h v =
    lt→ltb (m * up e * 1) (1 * 2 ^ 64 * down e)
    (less (m * up e) (p * down e) (2 ^ 64 * down e) v.1 (mul-lt-mul_of_pos_right h (down_pos e)))
  where
    less : (a b c : ℕ) → a * 8 ≡ b → b < c → a * 1 < c
    less a b c e l = omega arith
cut_below nan p h v = elim v [ ]
cut_below (inf _) p h v = elim v [ ]
