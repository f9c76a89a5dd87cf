-- Decimal text: how long it is, and that the kit's digits are it.
--     length-decimal      below 10^(k+1): at most k+1 digits
--     digits_decimal      the kit's digits, where they are the fewest that hold a number, are that text
-- Assumes nothing.
use Prim.Native.Nat.{ℕ, zero, suc, ◌+◌, ◌-◌, ◌/◌, ◌%◌, ◌^◌, ◌≤◌, ◌<◌}
use mathlib.Core.Path.{◌≡◌, sym, ap, ◌∙◌}
use mathlib.Core.Logic.{⊎_elim}
use mathlib.Core.List.{List, [], ◌∷◌, ◌++◌}
use native.Mathlib.Nat.{not-suc-le-zero, pow-suc, div-lt_iff_lt-mul, le-div_iff_mul-le}
use native.Mathlib.Omega.{arith}
use borrow.Author.Tests.{lt-ltb, le-ltb}
use lib.Dec.{lit<}
use lib.ListN.{length, length-append}
use Rattle.io.specs.Digits.{hex_digit_ascii, last_digits, IsDigitCount}
use Rattle.format.specs.Listing.{decimal_in, decimal}
use Rattle.format.proofs.Lists.{below_or}

-- ---- how it is made

-- a bound on the digits that is large enough makes no difference
enough : (f g n : ℕ) → n < f → n < g → decimal_in f n ≡ decimal_in g n
unfolding decimal_in
enough zero g n h k = absurd (not-suc-le-zero h)
enough (suc f) zero n h k = absurd (not-suc-le-zero k)
enough (suc f) (suc g) n h k =
    ⊎_elim
    (λ small. simp (lt-ltb n 10 small))
    (λ large. simp (le-ltb n 10 large) (ap (λ (l : List ℕ). l ++ ((48 + n % 10) ∷ [])) (enough f g (n / 10) (omega arith) (omega arith))))
    (below_or n 10)

-- one digit
decimal_small : (n : ℕ) → n < 10 → decimal n ≡ (48 + n) ∷ []
unfolding decimal decimal_in
decimal_small n h = simp (lt-ltb n 10 h)

-- the same, as the last digit of a number is made
decimal_last : (n : ℕ) → n < 10 → decimal n ≡ (48 + n % 10) ∷ []
decimal_last n h = decimal_small n h ∙ ap (λ (d : ℕ). (48 + d) ∷ []) (omega arith)

-- the digits of a tenth, and then the last
decimal_more : (n : ℕ) → 10 ≤ n → decimal n ≡ decimal (n / 10) ++ ((48 + n % 10) ∷ [])
unfolding decimal decimal_in
decimal_more n h =
    simp (le-ltb n 10 h) (ap (λ (l : List ℕ). l ++ ((48 + n % 10) ∷ [])) (enough n (suc (n / 10)) (n / 10) (omega arith) (omega arith)))

-- ---- how long it is

length_small : (n : ℕ) → n < 10 → length (decimal n) ≡ 1
length_small n h = ap length (decimal_small n h)

length_more : (n : ℕ) → 10 ≤ n → length (decimal n) ≡ length (decimal (n / 10)) + 1
length_more n h = ap length (decimal_more n h) ∙ length-append (decimal (n / 10)) ((48 + n % 10) ∷ [])

-- below 10^(k+1) there are at most k+1 digits
pub length-decimal : (k n : ℕ) → n < 10 ^ suc k → length (decimal n) ≤ suc k
length-decimal zero n h = omega (arith, length_small n h)
length-decimal (suc k) n h =
    ⊎_elim
    (λ s. omega (arith, length_small n s))
    (λ l. omega (arith, length_more n l, length-decimal k (n / 10) ((div-lt_iff_lt-mul (lit< tt)).1 (rw (← pow-suc) h))))
    (below_or n 10)

-- ---- the kit's digits

-- a digit's code
glyph_is : (d : ℕ) → d < 10 → hex_digit_ascii d ≡ 48 + d
glyph_is d h = simp (lt-ltb d 10 h)

-- a power of ten is not 0
ten_pos : (k : ℕ) → 1 ≤ 10 ^ k
ten_pos zero = omega arith
ten_pos (suc k) = omega (arith, pow-suc 10 k, ten_pos k)

-- the fewest digits that hold a number are its text
pub digits_decimal : (k n : ℕ) → IsDigitCount 10 1 n k → last_digits 10 k n ≡ decimal n
digits_decimal zero n f = absurd (not-suc-le-zero f.0)
digits_decimal (suc zero) n f =
    ap (λ (d : ℕ). d ∷ []) (glyph_is (n % 10) (omega arith)) ∙ sym (decimal_last n (omega (arith, f.1)))
digits_decimal (suc (suc j)) n f =
    let low : 10 ^ suc j ≤ n = rw one_less at (f.2 (omega arith)) in
    let low' : 10 ^ j ≤ n / 10 = (le-div_iff_mul-le (lit< tt)).1 (rw (← pow-suc) low) in
    let high : n / 10 < 10 ^ suc j = (div-lt_iff_lt-mul (lit< tt)).1 (rw (← pow-suc) f.1) in
    let some : 1 ≤ 10 ^ j = ten_pos j in
    let large : 10 ≤ n = omega (arith, pow-suc 10 j) in
    ap (λ (l : List ℕ). l ++ (hex_digit_ascii (n % 10) ∷ [])) (digits_decimal (suc j) (n / 10) (omega arith, high, λ _. rw less low'))
    ∙ ap (λ (d : ℕ). decimal (n / 10) ++ (d ∷ [])) (glyph_is (n % 10) (omega arith))
    ∙ sym (decimal_more n large)
  where
    one_less : suc (suc j) - 1 ≡ suc j
    one_less = omega arith

    less : suc j - 1 ≡ j
    less = omega arith
