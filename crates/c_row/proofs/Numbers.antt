-- Numbers out of bytes.
--     eight_bytes      eight bytes are a sum of eight terms
--     low_ones         the ones that are left of 64, shifted down, are a mask
--     ends_inside      a number lies within the eight bytes from its first bit on
--     stands           what is read there is the number
--     some_bits        a number above 0 has bits
-- Assumes nothing.
use mathlib.Core.Path.{◌≡◌, refl, sym, ap, ◌∙◌}
use mathlib.Core.Bool.{true}
use mathlib.Core.List.{List}
use Prim.Native.Nat.{ℕ, zero, suc, ◌+◌, ◌-◌, ◌*◌, ◌/◌, ◌%◌, ◌^◌, ◌≤◌, ◌<◌}
use native.Mathlib.Nat.{suc-mul, add-mul, one-mul}
use native.Mathlib.Omega.{arith}
use lib.Arith.{digits_div}
use lib.ListN.{length, take, drop, get_or}
use lib.Pow.{pow_pos, pow-add}
use lib.Seq.{drop-drop}
use Rattle.format.specs.Word.{AllBelow}
use Rattle.format.specs.Packing.{bit_length, legal, bytes_num, unpack}
use Rattle.format.proofs.Lists.{all_drop}
use Rattle.format.proofs.Gathering.{bytes_num_step, unpack-word}
use Rattle.format.proofs.Widths.{legal_window, bit_length_above}

-- ---- eight bytes

-- one byte more, the first and k bytes behind it
step : (l : List ℕ) (at k m : ℕ) → at + k < length l → bytes_num (take (suc m) (drop (at + k) l)) ≡ get_or l (at + k) 0 + 256 * bytes_num (take m (drop (at + suc k) l))
step l at k m h =
    let place : suc (at + k) ≡ at + suc k = omega arith in
    bytes_num_step l (at + k) m h ∙ ap (λ (j : ℕ). get_or l (at + k) 0 + 256 * bytes_num (take m (drop j l))) place

first : (l : List ℕ) (at m : ℕ) → at < length l → bytes_num (take (suc m) (drop at l)) ≡ get_or l at 0 + 256 * bytes_num (take m (drop (at + 1) l))
first l at m h =
    let place : suc at ≡ at + 1 = omega arith in
    bytes_num_step l at m h ∙ ap (λ (j : ℕ). get_or l at 0 + 256 * bytes_num (take m (drop j l))) place

-- none
none : (l : List ℕ) → bytes_num (take 0 l) ≡ 0
unfolding bytes_num
none l = refl

pub eight_bytes : (l : List ℕ) (at : ℕ) → at + 8 ≤ length l
    → get_or l at 0 + get_or l (at + 1) 0 * 0x100 + get_or l (at + 2) 0 * 0x1_0000 + get_or l (at + 3) 0 * 0x100_0000 + get_or l (at + 4) 0 * 0x1_0000_0000 + get_or l (at + 5) 0 * 0x100_0000_0000 + get_or l (at + 6) 0 * 0x1_0000_0000_0000 + get_or l (at + 7) 0 * 0x100_0000_0000_0000
    ≡ bytes_num (take 8 (drop at l))
eight_bytes l at h =
    omega (arith, first l at 7 (omega arith), step l at 1 6 (omega arith), step l at 2 5 (omega arith), step l at 3 4 (omega arith), step l at 4 3 (omega arith), step l at 5 2 (omega arith), step l at 6 1 (omega arith), step l at 7 0 (omega arith), none (drop (at + 8) l))

-- ---- a field of a word

pub low_ones : (w : ℕ) → w ≤ 64 → (2 ^ 64 - 1) / 2 ^ (64 - w) ≡ 2 ^ w - 1
low_ones w h =
    let cut : w + (64 - w) ≡ 64 = omega arith in
    let split : 2 ^ 64 ≡ 2 ^ w * 2 ^ (64 - w) = ap (λ (k : ℕ). 2 ^ k) (sym cut) ∙ pow-add 2 w (64 - w) in
    let some : suc (2 ^ w - 1) ≡ 2 ^ w = omega (arith, pow_pos w) in
    let whole : 2 ^ w * 2 ^ (64 - w) ≡ (2 ^ w - 1) * 2 ^ (64 - w) + 2 ^ (64 - w) = ap (λ (k : ℕ). k * 2 ^ (64 - w)) (sym some) ∙ suc-mul (2 ^ w - 1) (2 ^ (64 - w)) in
    let digits : 2 ^ 64 - 1 ≡ (2 ^ w - 1) * 2 ^ (64 - w) + (2 ^ (64 - w) - 1) = omega (arith, split, whole, pow_pos (64 - w)) in
    ap (λ (n : ℕ). n / 2 ^ (64 - w)) digits ∙ digits_div (2 ^ w - 1) (omega (arith, pow_pos (64 - w)))

-- ---- a number of a run

pub ends_inside : (w i start size : ℕ) → legal w ≡ true → start ≤ size → i * w / 8 + 8 ≤ size - start → 8 * start + (i + 1) * w ≤ 8 * size
ends_inside w i start size lawful from room = omega (arith, legal_window w i lawful, add-mul i 1 w, one-mul w)

pub stands : (w : ℕ) (s : List ℕ) (at i : ℕ) → AllBelow 256 s → legal w ≡ true
    → bytes_num (take 8 (drop (at + i * w / 8) s)) / 2 ^ (i * w % 8) % 2 ^ w ≡ unpack w (drop at s) i
stands w s at i bytes lawful =
    sym (unpack-word w (drop at s) i (all_drop at s bytes) lawful
    ∙ ap (λ (l : List ℕ). bytes_num (take 8 l) / 2 ^ (i * w % 8) % 2 ^ w) (drop-drop (i * w / 8) at s))

-- ---- the bits of a number

more : (k n : ℕ) → n < 2 ^ k → 0 < n → 0 < k
more zero n h p = omega arith
more (suc k) n h p = omega arith

-- a number above 0 has some
pub some_bits : (n : ℕ) → 0 < n → 0 < bit_length n
some_bits n p = more (bit_length n) n (bit_length_above n) p
