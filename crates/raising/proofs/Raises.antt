-- Loops that raise the numbers of a whole list in place.
--     clear, over_is                                                            top bits
--     product_next, line_height                                                 a line's product, from place to place
--     Raising, raising_starts, raising_more, raising_ends, raising_within       the loops' invariant
-- Assumes nothing.
use mathlib.Core.Path.{◌≡◌, refl, sym, ap, ◌∙◌}
use mathlib.Core.Bool.{true}
use mathlib.Core.Logic.{⊎_elim}
use mathlib.Core.List.{List}
use Prim.Native.Nat.{ℕ, ◌+◌, ◌*◌, ◌/◌, ◌%◌, ◌^◌, ◌≤◌, ◌<◌}
use native.Mathlib.Nat.{eq-or-lt_of_le, not-suc-le-zero, le_refl, add-mul, mod-mod}
use native.Mathlib.Omega.{arith}
use lib.Bits.{bit_or, or_add_and, and_le_l, and_le_r}
use lib.Dec.{leb}
use lib.ListN.{length, get_or, set, length-set}
use lib.Seq.{get_or-set_same, get_or-set_other}
use borrow.Author.Tests.{leb-true}
use Rattle.format.specs.declared.Line.{Line}
use Rattle.format.specs.Line.{line_at}
use Rattle.format.specs.Word.{mod_add, mod_sub, mod_mul, signed32}
use Rattle.format.proofs.Lists.{below_or}
use Rattle.format.proofs.Words.{signed_low, signed_high, sub_below, back}
use Rattle.raising.specs.Raising.{Raised, Within}

-- ---- top bits

-- the top bit of a word that is joined of two is clear only if both words' are
clear_left : (a b : ℕ) → bit_or a b < 2 ^ 63 → a < 2 ^ 63
clear_left a b h = omega (arith, or_add_and a b, and_le_r a b)

clear_right : (a b : ℕ) → bit_or a b < 2 ^ 63 → b < 2 ^ 63
clear_right a b h = omega (arith, or_add_and a b, and_le_l a b)

-- the test of a top bit
pub clear : {n : ℕ} → leb n 9223372036854775807 ≡ true → n < 2 ^ 63
clear {n} e = omega (arith, leb-true n 9223372036854775807 e)

pub over_is : (limit x y : ℕ) → limit < 2 ^ 63 → x < 2 ^ 64 → y ≡ mod_sub limit x → bit_or x y < 2 ^ 63 → x ≤ limit
over_is limit x y small fits e h =
    let a = clear_left x y h in
    let b = clear_right x y h in
    omega arith

-- ---- a line's product

-- the next place's product is the slope more
more : (a b slope p : ℕ) → b ≡ a + slope → p ≡ (a + 2 ^ 63) % 2 ^ 64 → mod_add p slope ≡ (b + 2 ^ 63) % 2 ^ 64
more a b slope p e is = omega arith

left : (a b : ℕ) → mod_add (a % 2 ^ 64) b ≡ (a + b) % 2 ^ 64
left a b = omega arith

pub product_next : (x slope p : ℕ) → p ≡ mod_add (mod_mul x slope) (2 ^ 63) → mod_add p slope ≡ mod_add (mod_mul (x + 1) slope) (2 ^ 63)
product_next x slope p is =
    more (x * slope) ((x + 1) * slope) slope p (add-mul x 1 slope ∙ omega arith) (is ∙ left (x * slope) (2 ^ 63)) ∙ sym (left ((x + 1) * slope) (2 ^ 63))

-- the sign of a product's upper half, by a shift
shifted : (p : ℕ) → p < 2 ^ 64 → mod_add (signed32 (p / 2 ^ 32)) (2 ^ 31) ≡ mod_add p (2 ^ 63) / 2 ^ 32
shifted p fits =
    ⊎_elim (λ s. rw (signed_low (p / 2 ^ 32) s) (omega arith)) (λ s. rw (signed_high (p / 2 ^ 32) s) (omega arith)) (below_or (p / 2 ^ 32) (2 ^ 31))

-- what stands for a sum may be put into a greater one
swapped : (x y z more : ℕ) → (x + y) % 2 ^ 64 ≡ z % 2 ^ 64 → (x + y + more) % 2 ^ 64 ≡ (z + more) % 2 ^ 64
swapped x y z more e = omega arith

-- two words with which a number makes the same sum
told-apart : (r d low z : ℕ) → r < 2 ^ 64 → d < 2 ^ 64 → (r + low) % 2 ^ 64 ≡ z % 2 ^ 64 → (d + low) % 2 ^ 64 ≡ z % 2 ^ 64 → r ≡ d
told-apart r d low z f g p q = omega arith

sum_of : (base q n low c r : ℕ) → c ≡ mod_add base q → r ≡ mod_add c n → (r + low) % 2 ^ 64 ≡ (base + low + (q + n)) % 2 ^ 64
sum_of base q n low c r e f = omega arith

regrouped : (i s a q n : ℕ) → (a + 2 ^ 31) % 2 ^ 64 ≡ i % 2 ^ 64 → (s + 2 ^ 31) % 2 ^ 64 ≡ q → (a + (q + n)) % 2 ^ 64 ≡ (i + (s + n)) % 2 ^ 64
regrouped i s a q n e f = omega arith

sums : (i s n : ℕ) → mod_add (mod_add i s) n ≡ (i + (s + n)) % 2 ^ 64
sums i s n = omega arith

pub line_height : (l : Line) (x low base product c number r : ℕ) → low < 2 ^ 64 → base ≡ mod_sub (mod_sub l.intercept (2 ^ 31)) low → product ≡ mod_add (mod_mul x l.slope) (2 ^ 63)
    → c ≡ mod_add base (product / 2 ^ 32) → r ≡ mod_add c number → r ≡ mod_sub (mod_add (line_at l x) number) low
unfolding line_at
line_height l x low base product c number r small from at sum is =
    let i = l.intercept in
    let p = mod_mul x l.slope in
    let s = signed32 (p / 2 ^ 32) in
    let q = product / 2 ^ 32 in
    let a = mod_sub i (2 ^ 31) in
    let z = mod_add (mod_add i s) number in
    let sign : (s + 2 ^ 31) % 2 ^ 64 ≡ q = shifted p (omega arith) ∙ ap (λ (y : ℕ). y / 2 ^ 32) (sym at) in
    let whole : (r + low) % 2 ^ 64 ≡ z % 2 ^ 64 =
    sum_of base q number low c r sum is
    ∙ swapped base low a (q + number) (ap (λ (y : ℕ). (y + low) % 2 ^ 64) from ∙ back a low small)
    ∙ regrouped i s a q number (back i (2 ^ 31) (omega arith)) sign
    ∙ sym (mod-mod (i + (s + number)) (2 ^ 64) ∙ refl)
    ∙ ap (λ (y : ℕ). y % 2 ^ 64) (sym (sums i s number)) in
    told-apart r (mod_sub z low) low z (omega arith) (sub_below z low) whole (back z low small)

-- ---- the invariant

module _ (height : ℕ → ℕ → ℕ) (minimum limit : ℕ) (before : List ℕ) where
  -- the entries before i are raised, and those from i on are as they were; if the top bit of what was seen is clear, the heights so far are within the limit
  pub record Raising (list : List ℕ) (seen i : ℕ) : Type 0 where
    pub kept : length list ≡ length before
    pub ahead : (j : ℕ) → i ≤ j → get_or list j 0 ≡ get_or before j 0
    pub within : seen < 2 ^ 63 → (j : ℕ) → j < i → height j (get_or before j 0) ≤ limit
    pub raised : (j : ℕ) → j < i → get_or list j 0 ≡ mod_add minimum (height j (get_or before j 0))

  pub raising_starts : Raising before 0 0
  raising_starts = record {
    kept = refl;
    ahead = λ j h. refl;
    within = λ z j h. absurd (not-suc-le-zero h);
    raised = λ j h. absurd (not-suc-le-zero h);
  }

  module _ {list : List ℕ} {seen i : ℕ} (r : Raising list seen i) where
    pub raising_more : {n u v : ℕ} → i < length list → n ≡ height i (get_or list i 0) → v ≡ mod_add minimum n → (u < 2 ^ 63 → n ≤ limit) → Raising (set list i v) (bit_or seen u) (i + 1)
    raising_more {n} {u} {v} h is made fits =
        let was : n ≡ height i (get_or before i 0) = is ∙ ap (λ (x : ℕ). height i x) (r.ahead i (le_refl i)) in
        record {
          kept = simp length-set r.kept;
          ahead = λ (j : ℕ) (k : i + 1 ≤ j). get_or-set_other list i j v 0 (λ (q : j ≡ i). omega arith) ∙ r.ahead j (omega arith);
          within = λ (z : bit_or seen u < 2 ^ 63) (j : ℕ) (k : j < i + 1).
              ⊎_elim
              (λ (q : j ≡ i). rw (q, ← was) (fits (clear_right seen u z)))
              (λ (less : j < i). r.within (clear_left seen u z) j less)
              (eq-or-lt_of_le (omega arith));
          raised = λ (j : ℕ) (k : j < i + 1).
              ⊎_elim
              (λ (q : j ≡ i). rw (q, ← was) (get_or-set_same list i v 0 h ∙ made))
              (λ (less : j < i). get_or-set_other list i j v 0 (λ (q : j ≡ i). omega arith) ∙ r.raised j less)
              (eq-or-lt_of_le (omega arith));
        }

    pub raising_ends : length list ≤ i → Raised height minimum before list
    raising_ends h = record { raised = λ (j : ℕ) (k : j < length before). r.raised j (omega (arith, r.kept)) }

    pub raising_within : length list ≤ i → seen < 2 ^ 63 → Within height limit before
    raising_within h z = record { within = λ (j : ℕ) (k : j < length before). r.within z j (omega (arith, r.kept)) }
