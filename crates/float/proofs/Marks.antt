-- Rounding sees of a number's lower digits only whether they are all 0: two numbers with the same upper digits, of which neither ends there, round alike.
-- Assumes nothing.
use Rattle.std.proofs.Common.{◌≡◌, ℕ, zero, suc, ◌+◌, ◌-◌, ◌*◌, ◌/◌, ◌%◌, ◌^◌, ◌<◌, ◌≤◌, false, not, T, pos, sym, refl, ap, ◌∙◌, subst, le_trans, le_of_eq, lt_of_lt_of_le, lt_of_le_of_lt, le_of_lt, add_assoc, lt_irrefl, mul-le-mul_right, mod-lt, mul_assoc, mul_comm, div-lt_iff_lt-mul, add-mul, le_antisymm, mul-lt-mul_of_pos_right, one-mul, pow-suc, lt_of_not-le, div-add-mod', not-le_of_lt, div-mul-le_self, div-one, mul_left_comm, arith, lit≤, eqb→eq, leb→le, pow_pos, pow_mono, pow-add, shr-shr}
use Prim.Native.Nat.{compare, Ordering}
use native.Mathlib.Nat.{mul-div-mul_right}
use lib.Dec.{nleb→lt, eqb_refl, is_le, compare_is_eq}
use lib.Arith.{digits_div, digits_mod}
use lib.Ieee.{Format, binary32, prec, low, size, nearest, units, round, of_int}
use lib.Ieee.Digits.{size-lt, size-le, back}
use lib.Ieee.Fits.{round_is}
use lib.Ieee.Nearest.{closest}

-- ---- `compare` by the order
pub compare_lt : (a b : ℕ) → a < b → compare a b ≡ Ordering.lt
compare_lt a b h = go (compare a b) (nleb→lt a b) (eqb→eq a b)
  where
    go : (o : Ordering) → (T (not (is_le o)) → b < a) → (T (compare_is_eq o) → a ≡ b) → o ≡ Ordering.lt
    go Ordering.lt k e = refl
    go Ordering.eq k e = absurd (lt_irrefl a (subst (λ (x : ℕ). a < x) (sym (e tt)) h))
    go Ordering.gt k e = absurd (not-le_of_lt h (le_of_lt (k tt)))

pub compare_gt : (a b : ℕ) → b < a → compare a b ≡ Ordering.gt
compare_gt a b h = go (compare a b) (leb→le a b)
  where
    go : (o : Ordering) → (T (is_le o) → a ≤ b) → o ≡ Ordering.gt
    go Ordering.lt k = absurd (not-le_of_lt h (k tt))
    go Ordering.eq k = absurd (not-le_of_lt h (k tt))
    go Ordering.gt k = refl

pub compare_eq : (a : ℕ) → compare a a ≡ Ordering.eq
compare_eq a = go (compare a a) (eqb_refl a)
  where
    go : (o : Ordering) → T (compare_is_eq o) → o ≡ Ordering.eq
    go Ordering.lt t = absurd t
    go Ordering.eq t = refl
    go Ordering.gt t = absurd t

-- ---- strictly between two multiples of the half unit h the nearest multiple of h * 2 is known by the lower one

-- d units and s of the next
closest_digits : (d s u : ℕ) → s < u → closest (d * u + s) u ≡ nearest d (compare (s * 2) u)
closest_digits d s u h = rw (digits_div d h, digits_mod d h)

closest_even : (d r h : ℕ) → r < h → closest (d * (h * 2) + r) (h * 2) ≡ d
closest_even d r h H = closest_digits d r (h * 2) (omega arith) ∙ ap (nearest d) (compare_lt (r * 2) (h * 2) (omega arith))

closest_odd : (d r h : ℕ) → 0 < r → r < h → closest (d * (h * 2) + (h + r)) (h * 2) ≡ suc d
closest_odd d r h R H = closest_digits d (h + r) (h * 2) (omega arith) ∙ ap (nearest d) (compare_gt ((h + r) * 2) (h * 2) (omega arith))

even_place : (q d h r : ℕ) → q ≡ d * 2 → q * h + r ≡ d * (h * 2) + r
even_place q d h r e = rw e (simp (mul_assoc, mul_comm, mul_left_comm) refl)

odd_place : (q d h r : ℕ) → q ≡ d * 2 + 1 → q * h + r ≡ d * (h * 2) + (h + r)
odd_place q d h r e = rw e (simp (add-mul, one-mul, mul_assoc, mul_comm, mul_left_comm, add_assoc) refl)

closest_inside : (q r h : ℕ) → 0 < r → r < h → closest (q * h + r) (h * 2) ≡ (q + 1) / 2
closest_inside q r h R H = go (q % 2) refl
  where
    go : (b : ℕ) → q % 2 ≡ b → closest (q * h + r) (h * 2) ≡ (q + 1) / 2
    go zero e =
        let half : q / 2 ≡ (q + 1) / 2 = omega arith in
        ap (λ (n : ℕ). closest n (h * 2)) (even_place q (q / 2) h r (omega arith)) ∙ closest_even (q / 2) r h H ∙ half
    go (suc b) e =
        let half : suc (q / 2) ≡ (q + 1) / 2 = omega arith in
        ap (λ (n : ℕ). closest n (h * 2)) (odd_place q (q / 2) h r (omega arith)) ∙ closest_odd (q / 2) r h R H ∙ half

-- ---- two numbers with the same digits from place t on, neither of them ending there

-- n goes on below place t
abbrev pub Ragged : ℕ → ℕ → Type 0
Ragged t n = n / 2 ^ t * 2 ^ t < n

-- from place t on up to place t + j
upper_part : (n t j : ℕ) → Ragged t n → n / 2 ^ (t + j) * 2 ^ (t + j) < n
upper_part n t j h =
    lt_of_le_of_lt
    (le_trans (le_of_eq (ap (λ (z : ℕ). z * 2 ^ (t + j)) (sym (shr-shr n t j)) ∙ ap (λ (z : ℕ). n / 2 ^ t / 2 ^ j * z) (pow-add 2 t j ∙ mul_comm (2 ^ t) (2 ^ j)) ∙ sym (mul_assoc (n / 2 ^ t / 2 ^ j) (2 ^ j) (2 ^ t))))
    (mul-le-mul_right (2 ^ t) (div-mul-le_self (n / 2 ^ t) (2 ^ j))))
    h

closest_upper : (n t j : ℕ) → Ragged t n → closest n (2 ^ suc (t + j)) ≡ (n / 2 ^ t / 2 ^ j + 1) / 2
closest_upper n t j h =
    let k = 2 ^ (t + j) in
    let q = n / k in
    let whole : q * k + n % k ≡ n = div-add-mod' n k in
    ap (λ (u : ℕ). closest n u) (pow-suc 2 (t + j))
    ∙ ap (λ (m : ℕ). closest m (k * 2)) (sym whole)
    ∙ closest_inside q (n % k) k (rest (q * k) (n % k) n whole (upper_part n t j h)) (mod-lt n (pow_pos (t + j)))
    ∙ ap (λ (z : ℕ). (z + 1) / 2) (sym (shr-shr n t j))
  where
    rest : (a r n : ℕ) → a + r ≡ n → a < n → 0 < r
    rest a r n e l = omega arith

-- as many digits
size_upper : (a b t : ℕ) → a / 2 ^ t ≡ b / 2 ^ t → 2 ^ t ≤ b → size a ≤ size b
size_upper a b t e h =
    let z = size b in
    let t_lt : t < z = lt_of_not-le (λ (g : z ≤ t). not-le_of_lt (lt_of_lt_of_le (size-lt b) (pow_mono g)) h) in
    let whole : 2 ^ (z - t) * 2 ^ t ≡ 2 ^ z = sym (pow-add 2 (z - t) t) ∙ ap (λ (x : ℕ). 2 ^ x) (back z t (le_of_lt t_lt)) in
    size-le a z
    (subst (λ (x : ℕ). a < x) whole
    ((div-lt_iff_lt-mul (pow_pos t)).0
    (subst (λ (x : ℕ). x < 2 ^ (z - t)) (sym e) ((div-lt_iff_lt-mul (pow_pos t)).1 (subst (λ (x : ℕ). b < x) (sym whole) (size-lt b))))))

-- ---- such numbers round alike, where the unit is above place t

round_upper : (f : Format) (a b t j : ℕ) → a * 2 ^ low f / 2 ^ t ≡ b * 2 ^ low f / 2 ^ t → Ragged t (a * 2 ^ low f) → Ragged t (b * 2 ^ low f)
    → size (a * 2 ^ low f) ≡ prec f + suc (t + j) → size (b * 2 ^ low f) ≡ prec f + suc (t + j) → round f false a 1 ≡ round f false b 1
round_upper f a b t j e x y p q = place a x p ∙ ap (λ (z : ℕ). units f false ((z / 2 ^ j + 1) / 2) (suc (t + j))) e ∙ sym (place b y q)
  where
    place : (n : ℕ) → Ragged t (n * 2 ^ low f) → size (n * 2 ^ low f) ≡ prec f + suc (t + j) → round f false n 1 ≡ units f false ((n * 2 ^ low f / 2 ^ t / 2 ^ j + 1) / 2) (suc (t + j))
    place n r s =
        let m = n * 2 ^ low f in
        let dropped : size (m / 1) - prec f ≡ suc (t + j) = ap (λ (z : ℕ). size z - prec f) (div-one m) ∙ ap (λ (z : ℕ). z - prec f) s ∙ gone (prec f) (suc (t + j)) in
        round_is f false n 1
        ∙ ap (λ (k : ℕ). units f false (closest m (1 * 2 ^ k)) k) dropped
        ∙ ap (λ (u : ℕ). units f false (closest m u) (suc (t + j))) (one-mul (2 ^ suc (t + j)))
        ∙ ap (λ (z : ℕ). units f false z (suc (t + j))) (closest_upper m t j r)
      where
        gone : (p k : ℕ) → p + k - p ≡ k
        gone p k = omega arith

-- ---- a number of more than 48 digits, with its lower sixteen digits not all 0, against its upper digits and a last one set in their place

-- in units of the smallest f32
scaled_upper : (n : ℕ) → n * 2 ^ 149 / 2 ^ 166 ≡ n / 2 ^ 17
scaled_upper n = mul-div-mul_right n (2 ^ 17) (pow_pos 149)

scaled_ragged : (n : ℕ) → Ragged 17 n → Ragged 166 (n * 2 ^ 149)
scaled_ragged n h =
    lt_of_le_of_lt
    (le_of_eq (ap (λ (z : ℕ). z * 2 ^ 166) (scaled_upper n) ∙ sym (mul_assoc (n / 2 ^ 17) (2 ^ 17) (2 ^ 149))))
    (mul-lt-mul_of_pos_right h (pow_pos 149))

pub marked_rounds : (n m : ℕ) → 2 ^ 48 ≤ n → m / 2 ^ 17 ≡ n / 2 ^ 17 → Ragged 17 m → Ragged 17 n → round binary32 false m 1 ≡ round binary32 false n 1
marked_rounds n m long e x y =
    let a = m * 2 ^ 149 in
    let b = n * 2 ^ 149 in
    let same : a / 2 ^ 166 ≡ b / 2 ^ 166 = scaled_upper m ∙ e ∙ sym (scaled_upper n) in
    let m_long : 2 ^ 48 ≤ m = omega arith in
    let top_b : 2 ^ 197 ≤ b = mul-le-mul_right (2 ^ 149) long in
    let top_a : 2 ^ 197 ≤ a = mul-le-mul_right (2 ^ 149) m_long in
    let sizes : size a ≡ size b =
    le_antisymm (size_upper a b 166 same (le_trans (pow_mono {i = 166} {j = 197} (lit≤ tt)) top_b)) (size_upper b a 166 (sym same) (le_trans (pow_mono {i = 166} {j = 197} (lit≤ tt)) top_a)) in
    let many : 197 < size b = lt_of_not-le (λ (g : size b ≤ 197). not-le_of_lt (lt_of_lt_of_le (size-lt b) (pow_mono g)) top_b) in
    let places : size b ≡ 24 + suc (166 + (size b - 191)) = omega arith in
    round_upper binary32 m n 166 (size b - 191) same (scaled_ragged m x) (scaled_ragged n y) (sizes ∙ places) places

pub marked : (n : ℕ) → 2 ^ 48 ≤ n → (n % 2 ^ 16 ≡ 0 → ⊥) → of_int binary32 (pos ((n / 2 ^ 17 * 2 + 1) * 2 ^ 16)) ≡ of_int binary32 (pos n)
unfolding of_int
marked n long h = marked_rounds n ((n / 2 ^ 17 * 2 + 1) * 2 ^ 16) long (omega arith) (omega arith) (omega arith)
