-- Inverting bits, and the kinds.
--     xor_all, xor_sign_clear, xor_sign_set     all bits, and the sign bit alone
--     masked                                    a float's, by a mask that is worked out with no comparison
--     stored_plain, stored_by                   a number is stored as it is; any other word with those bits inverted, and at most as that number
-- Assumes nothing.
use Prim.Native.Nat.{ℕ, ◌+◌, ◌-◌, ◌*◌, ◌/◌, ◌^◌, ◌≤◌, ◌<◌, min}
use mathlib.Core.Path.{◌≡◌, refl, sym, ap, ◌∙◌}
use mathlib.Core.Bool.{Bool, true, false, true≢false, false≢true}
use mathlib.Core.Logic.{inl, inr}
use native.Mathlib.Nat.{div-eq_of_lt}
use native.Mathlib.Omega.{arith}
use borrow.Author.Tests.{lt-ltb, le-ltb}
use lib.Bits.{bit_xor, bit_and, bit_or, xor_zero_r, xor_comm, xor_shifted, xor_block, xor_add_and, and_mask}
use lib.Dec.{ltb}
use Rattle.format.specs.declared.Kind.{Kind}
use Rattle.format.specs.declared.Kind.TheVariants.{U64, I64, Date, Bool as Flag, F64}
use Rattle.format.specs.Word.{mod_add, mod_sub}
use Rattle.format.specs.Typed.{stored_in, stored_float, stored_flag}
use Rattle.format.proofs.Lists.{below_or}
use Rattle.format.proofs.Mappings.{bits_stored, stored_clear, stored-set}
use Rattle.format.proofs.StoredLists.{stored-fits}
use Rattle.monotonic_mapping.specs.Flips.{is_number, flipped, most_stored}

-- ---- inverting bits

pub xor_all : (x : ℕ) → x < 2 ^ 64 → bit_xor x (2 ^ 64 - 1) ≡ 2 ^ 64 - 1 - x
xor_all x h =
    let all = xor_add_and x (2 ^ 64 - 1) in
    let same : bit_and x (2 ^ 64 - 1) ≡ x = and_mask x 64 ∙ omega arith in
    omega (arith, all, same)

pub xor_sign_clear : (x : ℕ) → x < 2 ^ 63 → bit_xor x (2 ^ 63) ≡ x + 2 ^ 63
xor_sign_clear x h = xor_comm x (2 ^ 63) ∙ xor_shifted 1 63 x h ∙ omega arith

pub xor_sign_set : (x : ℕ) → 2 ^ 63 ≤ x → x < 2 ^ 64 → bit_xor x (2 ^ 63) ≡ x - 2 ^ 63
xor_sign_set x h k =
    let parts : x ≡ 1 * 2 ^ 63 + (x - 2 ^ 63) = omega arith in
    ap (λ (y : ℕ). bit_xor y (2 ^ 63)) parts ∙ xor_block 63 1 1 (x - 2 ^ 63) 0 (omega arith) (omega arith) ∙ ap (λ (y : ℕ). 0 + y) (xor_zero_r (x - 2 ^ 63)) ∙ omega arith

-- a float's: 0 less the sign bit is nothing, or all bits
pub masked : (x : ℕ) {all : ℕ} → x < 2 ^ 64 → all ≡ mod_sub 0 (x / 2 ^ 63) → bit_xor x (bit_or all (2 ^ 63)) ≡ stored_float x
masked x h e = elim (below_or x (2 ^ 63)) [
  | inl l ↦ rw (e ∙ ap (mod_sub 0) (div-eq_of_lt l)) (xor_sign_clear x l ∙ sym (stored_clear x l))
  | inr g ↦ rw (e ∙ ap (mod_sub 0) (one g)) (xor_all x h ∙ sym (stored-set x g))
]
  where
    one : 2 ^ 63 ≤ x → x / 2 ^ 63 ≡ 1
    one g = omega arith

-- ---- the kinds

-- the sign bit inverted
turned : (x : ℕ) → x < 2 ^ 64 → bit_xor x (2 ^ 63) ≡ mod_add x (2 ^ 63)
turned x h = elim (below_or x (2 ^ 63)) [
  | inl l ↦ xor_sign_clear x l ∙ omega arith
  | inr g ↦ xor_sign_set x g h ∙ omega arith
]

-- 0 stays, and what is above it becomes 1
lesser_flag : (x : ℕ) → min x 1 ≡ stored_flag (ltb 0 x)
lesser_flag x = elim (below_or 0 x) [
  | inl l ↦ rw (lt-ltb 0 x l) (omega arith)
  | inr g ↦ rw (le-ltb 0 x g) (omega arith)
]

-- a word is at most the greatest one
all_words : (x y : ℕ) → x ≡ y → y < 2 ^ 64 → min x (2 ^ 64 - 1) ≡ y
all_words x y e h = omega arith

kinds : (kind : Kind) (x : ℕ) → is_number kind ≡ false → x < 2 ^ 64 → stored_in kind x < 2 ^ 64 → min (flipped kind x) (most_stored kind) ≡ stored_in kind x
unfolding stored_in
kinds U64 x other h k = absurd (true≢false other)
kinds I64 x other h k = all_words _ _ (turned x h ∙ sym (bits_stored x h)) k
kinds Date x other h k = all_words _ _ (turned x h ∙ sym (bits_stored x h)) k
kinds Flag x other h k = ap (λ (y : ℕ). min y 1) (xor_zero_r x) ∙ lesser_flag x
kinds F64 x other h k = all_words _ _ refl k

-- a number is stored as it is
pub stored_plain : (kind : Kind) (x : ℕ) {t : Bool} → t ≡ is_number kind → t ≡ true → x ≡ stored_in kind x
unfolding stored_in
stored_plain U64 x e is = refl
stored_plain I64 x e is = absurd (false≢true (sym e ∙ is))
stored_plain Date x e is = absurd (false≢true (sym e ∙ is))
stored_plain Flag x e is = absurd (false≢true (sym e ∙ is))
stored_plain F64 x e is = absurd (false≢true (sym e ∙ is))

-- any other word
pub stored_by : (kind : Kind) (x : ℕ) {t : Bool} {most turned r : ℕ} → t ≡ is_number kind → t ≡ false → x < 2 ^ 64 → most ≡ most_stored kind → turned ≡ flipped kind x → r ≡ min turned most → r ≡ stored_in kind x
stored_by kind x e is h m f l = rw (l, f, m) (kinds kind x (sym e ∙ is) h (stored-fits kind x h))
