-- Laws of a packer's steps, and of a loop that packs rows.
--     word_fits                                           the held bits and a number on top of them fit the word
--     bits_so_far, held_short, hold_below                 what a packer holds
--     packs_none, packs_held, packs_word, packs_done      nothing packed yet; a number is held; a word is written; the close
--     packed_few, packed_count                            how many bytes rows fill
--     packing_starts, packing_writable, packing_more, packing_closable, packing_ends
--                                                         a loop over rows: before the first turn, in a turn and after it, and at the end
-- Assumes nothing.
use mathlib.Core.Path.{◌≡◌, refl, sym, ap, ap₂, ◌∙◌, subst}
use mathlib.Core.List.{List, [], ◌∷◌, ◌++◌, append-nil}
use Prim.Native.Nat.{ℕ, ◌+◌, ◌-◌, ◌*◌, ◌/◌, ◌%◌, ◌^◌, ◌≤◌, ◌<◌}
use native.Mathlib.Nat.{add-zero, mul_comm, mul_assoc, add_comm, mod-eq_of_lt, add-mul-div_left, div-add-mod', mul-mod_left, mul-div-mul_right, mul-le-mul_left, mod-lt}
use native.Mathlib.Numerals.{add-one}
use native.Mathlib.Omega.{arith}
use lib.ListN.{length, take, drop, get_or, length-append}
use lib.Seq.{take_all, take-suc, length-take-le, take_at, drop_at, drop-drop}
use lib.Arith.{digits_lt}
use lib.Pow.{pow_pos, pow-add, mod-pow-add, shr-shr, shr_lt, shl-shr, shl_exact}
use Rattle.format.specs.Word.{AllBelow, bytes_for}
use Rattle.format.specs.Packing.{bits_of, num_of, bytes_of, num_bytes, rows_bits, packed}
use Rattle.format.proofs.Lists.{all_none, all_append}
use Rattle.format.proofs.Bits.{length-bits_of, bits_of_bits, num_of-bits_of, num_of-append, num_of-drop, num_of_below, length-rows_bits, rows_bits-append}
use Rattle.format.proofs.Packing.{length-bytes_of, length-packed, row_inside}
use Rattle.format.proofs.Gathering.{num_bytes_split, num_bytes_low, bytes_of_num}
use Rattle.bitpacker.specs.Packer.{Packs, Writable, Closable, Packable, Packing}
use Rattle.bitpacker.specs.declared.BitPacker.{BitPacker}

-- ---- a word and the number that comes on top of it

module _ (hold v h : ℕ) (short : h < 64) (low : hold < 2 ^ h) where
  -- the places that are left in the word
  whole : (64 - h) + h ≡ 64
  whole = omega arith

  full : 2 ^ (64 - h) * 2 ^ h ≡ 2 ^ 64
  full = sym (pow-add 2 (64 - h) h) ∙ ap (λ (k : ℕ). 2 ^ k) whole

  -- shifted up, the lowest bits of v stay in the word
  word_low : v * 2 ^ h % 2 ^ 64 ≡ (v % 2 ^ (64 - h)) * 2 ^ h
  word_low =
      let e = mod-pow-add (v * 2 ^ h) (64 - h) h in
      let back = ap (λ (y : ℕ). (y % 2 ^ (64 - h)) * 2 ^ h) (shl-shr v h) in
      ap (λ (k : ℕ). v * 2 ^ h % 2 ^ k) (sym whole) ∙ e ∙ ap₂ (λ (a b : ℕ). a + b) back (mul-mod_left v (2 ^ h)) ∙ add-zero ((v % 2 ^ (64 - h)) * 2 ^ h)

  pub word_fits : hold + v * 2 ^ h % 2 ^ 64 < 2 ^ 64
  word_fits =
      let lt = digits_lt {q = v % 2 ^ (64 - h)} {m = 2 ^ (64 - h)} {r = hold} {c = 2 ^ h} (mod-lt v (pow_pos (64 - h))) low in
      omega (arith, full, word_low)

  -- the word, and above it what did not fit
  word_split : hold + 2 ^ h * v ≡ (hold + v * 2 ^ h % 2 ^ 64) + 2 ^ 64 * (v / 2 ^ (64 - h))
  word_split =
      let up : v * 2 ^ h / 2 ^ 64 ≡ v / 2 ^ (64 - h) = ap (λ (k : ℕ). v * 2 ^ h / k) (sym full) ∙ mul-div-mul_right v (2 ^ (64 - h)) (pow_pos h) in
      let turn = mul_comm v (2 ^ h) in
      let parts : v * 2 ^ h / 2 ^ 64 * 2 ^ 64 + v * 2 ^ h % 2 ^ 64 ≡ v * 2 ^ h = div-add-mod' (v * 2 ^ h) (2 ^ 64) in
      omega arith

-- ---- what a packer holds

-- a new packer has packed nothing
pub packs_none : (out : List ℕ) → Packs [] out (record { at = 0; held = 0; hold = 0 }) out
unfolding num_of bytes_of
packs_none out = record { all = all_none; at_word = refl; held_bits = refl; hold_is = refl; stands = refl }

module _ {bits before : List ℕ} {p : BitPacker} {out : List ℕ} (s : Packs bits before p out) where
  -- the bits so far are those of the words written and those held
  pub bits_so_far : length bits ≡ 8 * p.at + p.held
  bits_so_far = omega (arith, s.at_word, s.held_bits)

  pub held_short : p.held < 64
  held_short = omega (arith, s.held_bits)

  hold_num : p.hold ≡ num_of bits / 2 ^ (8 * p.at)
  hold_num = s.hold_is ∙ num_of-drop (8 * p.at) bits s.all

  pub hold_below : p.hold < 2 ^ p.held
  hold_below =
      let size : length bits ≡ p.held + 8 * p.at = bits_so_far ∙ add_comm (8 * p.at) p.held in
      rw hold_num (shr_lt p.held (8 * p.at) (subst (λ (k : ℕ). num_of bits < 2 ^ k) size (num_of_below bits s.all)))

  -- what stands written is the front of the bytes of the bits' number
  stands_front : take p.at out ≡ num_bytes p.at (num_of bits)
  stands_front =
      ap (λ (l : List ℕ). take p.at l) s.stands
      ∙ take_at (bytes_of p.at bits) (drop p.at before) p.at (length-bytes_of p.at bits)
      ∙ bytes_of_num p.at bits s.all

  -- what stands behind is as it was
  stands_behind : (n : ℕ) → drop (p.at + n) out ≡ drop (p.at + n) before
  stands_behind n =
      ap (λ (l : List ℕ). drop (p.at + n) l) s.stands
      ∙ sym (drop-drop n p.at (bytes_of p.at bits ++ drop p.at before))
      ∙ ap (λ (l : List ℕ). drop n l) (drop_at (bytes_of p.at bits) (drop p.at before) p.at (length-bytes_of p.at bits))
      ∙ drop-drop n p.at before

  -- the close: the held bits in as many bytes as they fill
  pub packs_done : take p.at out ++ num_bytes (bytes_for p.held) p.hold ++ drop (p.at + bytes_for p.held) out
      ≡ bytes_of (bytes_for (length bits)) bits ++ drop (bytes_for (length bits)) before
  packs_done =
      let n = bytes_for p.held in
      let count : p.at + n ≡ bytes_for (length bits) = omega (arith, bits_so_far) in
      let bytes : bytes_of (p.at + n) bits ≡ num_bytes p.at (num_of bits) ++ num_bytes n p.hold =
      bytes_of_num (p.at + n) bits s.all ∙ num_bytes_split p.at n (num_of bits)
      ∙ ap (λ (y : ℕ). num_bytes p.at (num_of bits) ++ num_bytes n y) (sym hold_num) in
      ap₂ (λ (f b : List ℕ). f ++ num_bytes n p.hold ++ b) stands_front (stands_behind n)
      ∙ ap (λ (l : List ℕ). l ++ drop (p.at + n) before) (sym bytes)
      ∙ ap (λ (k : ℕ). bytes_of k bits ++ drop k before) count

  module _ (w v : ℕ) (fit : v < 2 ^ w) where
    -- the bits with one number more
    abbrev more : List ℕ
    more = bits ++ bits_of w v

    more_all : AllBelow 2 more
    more_all = all_append bits (bits_of w v) s.all (bits_of_bits w v)

    more_count : length more ≡ length bits + w
    more_count = length-append bits (bits_of w v) ∙ ap (λ (k : ℕ). length bits + k) (length-bits_of w v)

    more_num : num_of more ≡ num_of bits + 2 ^ length bits * v
    more_num = num_of-append bits (bits_of w v) ∙ ap (λ (y : ℕ). num_of bits + 2 ^ length bits * y) (num_of-bits_of w v ∙ mod-eq_of_lt fit)

    -- above the words written stands the number on top of what is held
    more_held : num_of more / 2 ^ (8 * p.at) ≡ p.hold + 2 ^ p.held * v
    more_held =
        let up : 2 ^ length bits * v ≡ 2 ^ (8 * p.at) * (2 ^ p.held * v) =
        ap (λ (k : ℕ). 2 ^ k * v) bits_so_far ∙ ap (λ (k : ℕ). k * v) (pow-add 2 (8 * p.at) p.held) ∙ mul_assoc (2 ^ (8 * p.at)) (2 ^ p.held) v in
        ap (λ (k : ℕ). k / 2 ^ (8 * p.at)) (more_num ∙ ap (λ (k : ℕ). num_of bits + k) up)
        ∙ add-mul-div_left (num_of bits) (2 ^ p.held * v) (pow_pos (8 * p.at))
        ∙ ap (λ (k : ℕ). k + 2 ^ p.held * v) (sym hold_num)

    -- the bytes written stay as they are
    more_front : num_bytes p.at (num_of more) ≡ num_bytes p.at (num_of bits)
    more_front = ap (λ (k : ℕ). num_bytes p.at k) more_num ∙ num_bytes_low p.at (length bits) (num_of bits) v (omega (arith, bits_so_far))

    -- the number goes into the word that is held
    pub packs_held : p.held + w < 64
        → Packs (bits ++ bits_of w v) before (record { at = p.at; held = p.held + w; hold = p.hold + v * 2 ^ p.held % 2 ^ 64 }) out
    packs_held few =
        let n = more_count in
        let exact = shl_exact {a = v} w p.held 64 fit (omega arith) ∙ mul_comm v (2 ^ p.held) in
        record {
          all = more_all;
          at_word = omega (arith, s.at_word, bits_so_far);
          held_bits = omega (arith, s.at_word, bits_so_far);
          hold_is = ap (λ (k : ℕ). p.hold + k) exact ∙ sym (num_of-drop (8 * p.at) more more_all ∙ more_held);
          stands =
              s.stands
              ∙ ap (λ (l : List ℕ). l ++ drop p.at before) (bytes_of_num p.at bits s.all ∙ sym more_front ∙ sym (bytes_of_num p.at more more_all));
        }

    -- the word is full: it is written, and what did not fit is held
    pub packs_word : w ≤ 64 → 64 ≤ p.held + w → {after : List ℕ}
        → after ≡ take p.at out ++ num_bytes 8 (p.hold + v * 2 ^ p.held % 2 ^ 64) ++ drop (p.at + 8) out
        → Packs (bits ++ bits_of w v) before (record { at = p.at + 8; held = p.held + w - 64; hold = v / 2 / 2 ^ (63 - p.held) }) after
    packs_word most many put =
        let h = p.held in
        let low = p.hold + v * 2 ^ h % 2 ^ 64 in
        let high = v / 2 ^ (64 - h) in
        let n = more_count in
        let b = bits_so_far in
        let split = word_split p.hold v h held_short hold_below in
        let fits = word_fits p.hold v h held_short hold_below in
        let places : 1 + (63 - h) ≡ 64 - h = omega (arith, held_short) in
        let next : 8 * p.at + 64 ≡ 8 * (p.at + 8) = omega arith in
        let rest : (p.hold + 2 ^ h * v) / 2 ^ 64 ≡ high = omega arith in
        let bytes : bytes_of (p.at + 8) more ≡ num_bytes p.at (num_of bits) ++ num_bytes 8 low =
        bytes_of_num (p.at + 8) more more_all ∙ num_bytes_split p.at 8 (num_of more)
        ∙ ap₂ (λ (x y : List ℕ). x ++ y) more_front (ap (λ (k : ℕ). num_bytes 8 k) (more_held ∙ split) ∙ num_bytes_low 8 64 low high (omega arith)) in
        record {
          all = more_all;
          at_word = omega (arith, s.at_word);
          held_bits = omega (arith, s.at_word);
          hold_is =
              shr-shr v 1 (63 - h) ∙ ap (λ (k : ℕ). v / 2 ^ k) places ∙ sym rest ∙ ap (λ (k : ℕ). k / 2 ^ 64) (sym more_held)
              ∙ shr-shr (num_of more) (8 * p.at) 64 ∙ ap (λ (k : ℕ). num_of more / 2 ^ k) next ∙ sym (num_of-drop (8 * (p.at + 8)) more more_all);
          stands =
              put ∙ ap₂ (λ (f r : List ℕ). f ++ num_bytes 8 low ++ r) stands_front (stands_behind 8)
              ∙ ap (λ (l : List ℕ). l ++ drop (p.at + 8) before) (sym bytes);
        }

-- ---- how many bytes rows fill

pub packed_few : (w n : ℕ) → n < 2 ^ 32 → w ≤ 64 → w * n + 7 < 2 ^ 39
packed_few w n few most = omega (arith, mul_comm w n, mul-le-mul_left n most)

pub packed_count : (w : ℕ) (rows : List ℕ) (n : ℕ) → length rows ≡ n → length (packed w rows) ≡ bytes_for (w * n)
packed_count w rows n count = rw (← count) (length-packed w rows)

-- ---- a loop that packs n rows

-- before the first turn
pub packing_starts : (w : ℕ) (rows : List ℕ) {out : List ℕ} {p : BitPacker} → Packs [] out p out → Packing w rows out 0 p out
unfolding rows_bits
packing_starts w rows s = record { within = omega arith; kept = refl; packs = s }

module _ {w : ℕ} {rows before : List ℕ} {n i : ℕ} {p : BitPacker} {out : List ℕ}
    (ask : Packable w rows before) (count : length rows ≡ n) (s : Packing w rows before i p out) where
  -- in a turn the row can be written
  pub packing_writable : {v : ℕ} → i < n → v ≡ get_or rows i 0 → Writable w v p out
  packing_writable {v} inside is =
      let size : length (rows_bits w (take i rows)) ≡ i * w = length-rows_bits w (take i rows) ∙ ap (λ (k : ℕ). k * w) (length-take-le i rows s.within) in
      record {
        bits = rows_bits w (take i rows);
        before = before;
        packs = s.packs;
        most = ask.most;
        fits = rw is (ask.fits i (omega arith));
        room = omega (arith, size, row_inside (length rows) w i (omega arith), ask.room, s.kept);
      }

  -- after it one row more is packed
  pub packing_more : {v : ℕ} → i < n → v ≡ get_or rows i 0 → {q : BitPacker} {after : List ℕ}
      → ((bits b : List ℕ) → Packs bits b p out → Packs (bits ++ bits_of w v) b q after) → length after ≡ length out
      → Packing w rows before (i + 1) q after
  unfolding rows_bits
  packing_more {v} inside is {q} {after} wrote same =
      let next : take i rows ++ v ∷ [] ≡ take (i + 1) rows =
      ap (λ (x : ℕ). take i rows ++ x ∷ []) is ∙ sym (take-suc rows i 0 (omega arith)) ∙ ap (λ (k : ℕ). take k rows) (sym (add-one i)) in
      let grown : rows_bits w (take i rows) ++ bits_of w v ≡ rows_bits w (take (i + 1) rows) =
      ap (λ (l : List ℕ). rows_bits w (take i rows) ++ l) (sym (append-nil (bits_of w v))) ∙ sym (rows_bits-append w (take i rows) (v ∷ [])) ∙ ap (rows_bits w) next in
      record {
        within = omega arith;
        kept = same ∙ s.kept;
        packs = subst (λ (bits : List ℕ). Packs bits before q after) grown (wrote (rows_bits w (take i rows)) before s.packs);
      }

  -- once no row is left, the packer has packed them all
  all_packed : n ≤ i → Packs (rows_bits w rows) before p out
  all_packed h = rw (← take_all i rows (omega arith)) s.packs

  bits_count : bytes_for (length (rows_bits w rows)) ≡ bytes_for (w * n)
  bits_count = ap bytes_for (length-rows_bits w rows ∙ mul_comm (length rows) w ∙ ap (λ (k : ℕ). w * k) count)

  -- it can be closed
  pub packing_closable : n ≤ i → Closable p out
  packing_closable h =
      record {
        bits = rows_bits w rows;
        before = before;
        packs = all_packed h;
        room = omega (arith, bits_count, ap (λ (k : ℕ). bytes_for (w * k)) count, ask.room, s.kept);
      }

  -- and then the packed rows stand in front
  pub packing_ends : n ≤ i → {after : List ℕ}
      → ((bits b : List ℕ) → Packs bits b p out → after ≡ bytes_of (bytes_for (length bits)) bits ++ drop (bytes_for (length bits)) b)
      → after ≡ packed w rows ++ drop (bytes_for (w * n)) before
  unfolding packed
  packing_ends h closed =
      closed (rows_bits w rows) before (all_packed h)
      ∙ ap₂ (λ (a b : ℕ). bytes_of a (rows_bits w rows) ++ drop b before) (bits_count ∙ ap (λ (k : ℕ). bytes_for (w * k)) (sym count)) bits_count
