-- Laws of the saving: what f32 leaves as it is, the table of bounds, the exponent, and the saving beside that of whole numbers.
--     nearest_most, few_bits, in_f32_exact, in_f32_most   numbers of 24 bits are f32s; how much rounding adds
--     every, every_at, rises_from, rises_at              tests over a whole table, and what they say of an entry
--     bounds_rise, sound, bound_sound                   the table of bounds rises, and holds positive f32s
--     exponent_most                                     an exponent is at most 64
--     plain_exponent, plain_saving, savings_agree         the saving in whole numbers, and where it is the same
--     greatest_exponent, one_saves_nothing              the greatest gcd, and gcd 1
-- Assumes nothing.
use mathlib.Core.Path.{◌≡◌, refl, sym, ap, ◌∙◌}
use mathlib.Core.Bool.{Bool, true, false, true≢false}
use mathlib.Core.List.{List, [], ◌∷◌}
use Prim.Native.Nat.{ℕ, zero, suc, ◌+◌, ◌-◌, ◌*◌, ◌/◌, ◌%◌, ◌^◌, ◌≤◌, ◌<◌}
use native.Mathlib.Nat.{lt_of_not-le, mul-one, zero-mul, suc-mul, not-suc-le-zero, le_of_suc-le-suc, div-one, mod-one, mul-le-mul_right, add-mul, one-mul, div-mul-le_self, add-zero, zero-add, add-suc, suc-add}
use native.Mathlib.Omega.{arith}
use lib.Dec.{ltb, leb, lit≤}
use lib.ListN.{length, get_or}
use lib.Pow.{pow_mono}
use borrow.Author.Tests.{ltb-true}
use Rattle.format.specs.Outcome.{pick}
use Rattle.format.specs.Packing.{bit_length, bits_in}
use Rattle.format.specs.Saving.{nearest, in_f32, reaches, power_bounds, last_reached, exponent_of, saving}
use Rattle.format.proofs.Widths.{bit_length_tight}

-- ---- rounding to f32

-- in units of 1 nothing is rounded
nearest-whole : (n : ℕ) → nearest n 1 ≡ n
unfolding nearest
nearest-whole n = rw (mod-one n, div-one n)

-- fewer than 25 bits
pub few_bits : (n : ℕ) → n < 2 ^ 24 → bit_length n ≤ 24
few_bits n h =
    let lt : bit_length n < 25 = lt_of_not-le (λ (g : 25 ≤ bit_length n). omega (arith, pow_mono g, bit_length_tight n)) in
    omega arith

pub in_f32_exact : (n : ℕ) → n < 2 ^ 24 → in_f32 n ≡ n
unfolding in_f32
in_f32_exact n h =
    let none : bit_length n - 24 ≡ 0 = omega (arith, few_bits n h) in
    rw none (mul-one (nearest n 1) ∙ nearest-whole n)

-- rounding adds at most a unit
pub nearest_most : (n u : ℕ) → nearest n u ≤ n / u + 1
unfolding nearest
nearest_most n u = go (ltb (2 * (n % u)) u) (ltb u (2 * (n % u)))
  where
    go : (t s : Bool) → pick t (n / u) (pick s (n / u + 1) (n / u + n / u % 2)) ≤ n / u + 1
    go true s = omega arith
    go false true = omega arith
    go false false = omega arith

pub in_f32_most : (n : ℕ) → in_f32 n ≤ 3 * n + 1
unfolding in_f32
in_f32_most n =
    let unit = 2 ^ (bit_length n - 24) in
    let few : unit ≤ 2 ^ bit_length n = pow_mono (omega arith) in
    let more : nearest n unit * unit ≤ (n / unit + 1) * unit = mul-le-mul_right unit (nearest_most n unit) in
    omega (arith, add-mul (n / unit) 1 unit, one-mul unit, div-mul-le_self n unit, bit_length_tight n)

-- ---- the table

-- each of a list passes a test, together with its place, counted from k
abbrev pub every : (test : ℕ → ℕ → Bool) (k : ℕ) → List ℕ → Bool
every test k [] = true
every test k (x ∷ xs) = pick (test k x) (every test (suc k) xs) false

-- both of two tests
first_of : (t u : Bool) → pick t u false ≡ true → t ≡ true
first_of true u e = refl
first_of false u e = e

rest_of : (t u : Bool) → pick t u false ≡ true → u ≡ true
rest_of true u e = e
rest_of false u e = absurd (true≢false (sym e))

every_from : (test : ℕ → ℕ → Bool) (k : ℕ) (xs : List ℕ) → every test k xs ≡ true → (i : ℕ) → i < length xs → test (k + i) (get_or xs i 0) ≡ true
every_from test k [] all i h = absurd (not-suc-le-zero h)
every_from test k (x ∷ xs) all zero h = rw (add-zero k) (first_of (test k x) (every test (suc k) xs) all)
every_from test k (x ∷ xs) all (suc i) h =
    ap (λ (j : ℕ). test j (get_or xs i 0)) (add-suc k i ∙ sym (suc-add k i)) ∙ every_from test (suc k) xs (rest_of (test k x) (every test (suc k) xs) all) i (le_of_suc-le-suc h)

pub every_at : (test : ℕ → ℕ → Bool) (xs : List ℕ) → every test 0 xs ≡ true → (i : ℕ) → i < length xs → test i (get_or xs i 0) ≡ true
every_at test xs all i h = ap (λ (j : ℕ). test j (get_or xs i 0)) (sym (zero-add i)) ∙ every_from test 0 xs all i h

-- each of a list is above the one before it, the first above a given number
abbrev pub rises_from : (low : ℕ) → List ℕ → Bool
rises_from low [] = true
rises_from low (x ∷ xs) = pick (ltb low x) (rises_from x xs) false

pub rises_at : (low : ℕ) (xs : List ℕ) → rises_from low xs ≡ true → (k : ℕ) → k < length xs → get_or (low ∷ xs) k 0 < get_or xs k 0
rises_at low [] all k h = absurd (not-suc-le-zero h)
rises_at low (x ∷ xs) all zero h = ltb-true low x (first_of (ltb low x) (rises_from x xs) all)
rises_at low (x ∷ xs) all (suc k) h = rises_at x xs (rest_of (ltb low x) (rises_from x xs) all) k (le_of_suc-le-suc h)

-- the table rises
pub bounds_rise : (k : ℕ) → k < 64 → get_or power_bounds k 0 < get_or power_bounds (suc k) 0
unfolding power_bounds
bounds_rise k h = rises_at 0 power_bounds refl (suc k) (omega arith)

-- bits of a positive f32 with a leading 1: neither too small for one, nor an infinity or no number
abbrev pub sound : ℕ → Bool
sound bits = pick (leb (2 ^ 23) bits) (ltb bits (255 * 2 ^ 23)) false

-- every bound is such a one
pub bound_sound : (k : ℕ) → k < 65 → sound (get_or power_bounds k 0) ≡ true
unfolding power_bounds
bound_sound k h = every_at (λ k bits. sound bits) power_bounds refl k h

-- ---- the exponent

pub pick_most : (t : Bool) (k last most : ℕ) → k ≤ most → last ≤ most → pick t k last ≤ most
pick_most true k last most h g = h
pick_most false k last most h g = g

reached_under : (n last k most : ℕ) (bs : List ℕ) → last ≤ most → k + length bs ≤ suc most → last_reached n last k bs ≤ most
unfolding last_reached
reached_under n last k most [] h g = h
reached_under n last k most (b ∷ bs) h g =
    reached_under n (pick (reaches n b) k last) (suc k) most bs (pick_most (reaches n b) k last most (omega arith) h) (omega arith)

-- it is at most 64
pub exponent_most : (gcd : ℕ) → exponent_of gcd ≤ 64
unfolding exponent_of power_bounds
exponent_most gcd = reached_under (in_f32 gcd) 0 0 64 power_bounds (lit≤ tt) (lit≤ tt)

-- ---- beside whole numbers

-- the exponent of the greatest power of two not above the gcd
abbrev pub plain_exponent : ℕ → ℕ
plain_exponent gcd = bit_length gcd - 1

-- the saving worked out without rounding
abbrev pub plain_saving : (gcd rows : ℕ) → ℕ
plain_saving gcd rows = plain_exponent gcd * rows / 8

-- a small product is not rounded, whatever the rows are where nothing is multiplied
product_exact : (e rows : ℕ) → e * rows < 2 ^ 24 → in_f32 (e * in_f32 rows) ≡ e * rows
product_exact zero rows h = rw (zero-mul rows, zero-mul (in_f32 rows)) (in_f32_exact 0 (lit≤ tt))
product_exact (suc e) rows h =
    let few : rows < 2 ^ 24 = omega (arith, suc-mul e rows) in
    rw (in_f32_exact rows few) (in_f32_exact (suc e * rows) h)

-- both savings agree where the exponents are the same and their product with the rows is below 2^24
pub savings_agree : (gcd rows : ℕ) → exponent_of gcd ≡ plain_exponent gcd → plain_exponent gcd * rows < 2 ^ 24 → saving gcd rows ≡ plain_saving gcd rows
unfolding saving
savings_agree gcd rows same h = rw same (ap (λ (p : ℕ). p / 8) (product_exact (plain_exponent gcd) rows h))

-- a gcd of 2^64 - 1 has the last exponent
pub greatest_exponent : exponent_of (2 ^ 64 - 1) ≡ 64
unfolding exponent_of last_reached power_bounds reaches in_f32 nearest bit_length bits_in
greatest_exponent = refl

one_exponent : exponent_of 1 ≡ 0
unfolding exponent_of last_reached power_bounds reaches in_f32 nearest bit_length bits_in
one_exponent = refl

-- a gcd of 1 saves nothing: the crate's test for a gcd above 1 changes nothing
pub one_saves_nothing : (rows : ℕ) → saving 1 rows ≡ 0
unfolding saving
one_saves_nothing rows = rw (one_exponent, zero-mul (in_f32 rows)) (ap (λ (p : ℕ). p / 8) (in_f32_exact 0 (lit≤ tt)))
