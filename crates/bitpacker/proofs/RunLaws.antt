-- Laws of rows unpacked into a list, eight at a time or one by one.
--     unpacked_none, unpacked_to, unpacked_more          a list that is filled entry by entry
--     place_fits, row_next                               a row's first bit fits a word, and the next row's
--     part_byte, part_shift, part_most, part_less        number k of eight that start with a byte: where it lies
--     group_row, group_starts, group_inside, group_next  a group of eight in its area, and the next one
--     Grouping                                           what a loop over groups holds to
--     part_length, Single, single_more, single_ends      single rows, to a part of a list
-- Assumes nothing.
use mathlib.Core.Path.{◌≡◌, ap, ◌∙◌}
use mathlib.Core.Logic.{⊎_elim}
use mathlib.Core.List.{List, ◌++◌}
use Prim.Native.Nat.{ℕ, ◌+◌, ◌-◌, ◌*◌, ◌/◌, ◌%◌, ◌^◌, ◌≤◌, ◌<◌}
use native.Mathlib.Nat.{add-mul, mul_assoc, mul-le-mul_left, mul-le-mul_right, eq-or-lt_of_le, not-suc-le-zero}
use native.Mathlib.Omega.{arith}
use lib.ListN.{length, get_or, take, drop, set, length-drop, get_or-append}
use lib.Seq.{get_or-set_same, get_or-set_other, get_or-take}
use Rattle.std.proofs.lemmas.List.{get_or-append_right, length-take-le}
use Rattle.format.specs.Packing.{unpack}
use Rattle.format.proofs.Lists.{below_or}
use Rattle.format.proofs.Widths.{legal_most}
use mathlib.Core.Bool.{true}
use Rattle.format.specs.Packing.{legal}
use Rattle.bitpacker.specs.Runs.{Unpacked, Part}

-- ---- a list that is filled entry by entry

pub unpacked_none : (w : ℕ) (area : List ℕ) (first : ℕ) (list : List ℕ) → Unpacked w area first 0 list
unpacked_none w area first list = record { sofar = λ i h. absurd (not-suc-le-zero h) }

pub unpacked_more : {w : ℕ} {area : List ℕ} {first n v : ℕ} {list : List ℕ} → Unpacked w area first n list → n < length list → v ≡ unpack w area (first + n)
    → Unpacked w area first (n + 1) (set list n v)
unpacked_more {w} {area} {first} {n} {v} {list} u h e = record {
  sofar = λ (i : ℕ) (k : i < n + 1).
      ⊎_elim
      (λ (is : i ≡ n). rw is (get_or-set_same list n v 0 h ∙ e))
      (λ (less : i < n). get_or-set_other list n i v 0 (λ (q : i ≡ n). omega arith) ∙ u.sofar i less)
      (eq-or-lt_of_le (omega arith));
}

pub unpacked_to : {w : ℕ} {area : List ℕ} {first m : ℕ} {list : List ℕ} (n : ℕ) → m ≡ n → Unpacked w area first m list → Unpacked w area first n list
unpacked_to n e u = rw (← e) u

-- a row's first bit fits a word
pub place_fits : (w row : ℕ) → legal w ≡ true → row ≤ 2 ^ 32 → row * w < 2 ^ 64
place_fits w row h few = omega (arith, mul-le-mul_left row (legal_most w h))

pub row_next : (w first i : ℕ) → (first + (i + 1)) * w ≡ (first + i) * w + w
row_next w first i = omega (arith, add-mul first i w, add-mul first (i + 1) w, add-mul i 1 w)

-- ---- number k of eight that start with a byte

-- its bits, by the whole bytes and the rest of a width
part_bits : (w whole rest k : ℕ) → w ≡ 8 * whole + rest → k * w ≡ 8 * (k * whole) + k * rest
part_bits w whole rest k wide = ap (λ (x : ℕ). k * x) wide ∙ omega arith

byte_of : (bit at first more rest : ℕ) → bit ≡ 8 * at + first → first ≡ 8 * more + rest → bit / 8 ≡ at + more + rest / 8
byte_of bit at first more rest e f = omega arith

shift_of : (bit at first more rest : ℕ) → bit ≡ 8 * at + first → first ≡ 8 * more + rest → bit % 8 ≡ rest % 8
shift_of bit at first more rest e f = omega arith

module _ (w at whole rest k index : ℕ) (wide : w ≡ 8 * whole + rest) (place : index * w ≡ 8 * at + k * w) where
  pub part_byte : index * w / 8 ≡ at + k * whole + k * rest / 8
  part_byte = byte_of (index * w) at (k * w) (k * whole) (k * rest) place (part_bits w whole rest k wide)

  pub part_shift : index * w % 8 ≡ k * rest % 8
  part_shift = shift_of (index * w) at (k * w) (k * whole) (k * rest) place (part_bits w whole rest k wide)

-- its byte is at most the width behind the first
most_of : (more rest whole over : ℕ) → more ≤ 8 * whole → over ≤ 8 * rest → more + over / 8 ≤ 8 * whole + rest
most_of more rest whole over h g = omega arith

module _ {size at whole rest k w : ℕ} (p : Part size at whole rest k w) where
  pub whole_bits : k * whole ≤ 8 * whole
  whole_bits = mul-le-mul_right whole (omega (arith, p.eighth))

  pub rest_bits : k * rest ≤ 8 * rest
  rest_bits = mul-le-mul_right rest (omega (arith, p.eighth))

  pub part_most : at + k * whole + k * rest / 8 + 8 ≤ size
  part_most = omega (arith, most_of (k * whole) rest whole (k * rest) whole_bits rest_bits, p.wide, p.inside)

  pub part_small : 8 * whole + rest ≤ 64
  part_small = omega (arith, p.wide, legal_most w p.lawful)

  -- any other of the eight lies as the one does
  pub part_less : (j : ℕ) → j < 8 → Part size at whole rest j w
  part_less j h = record { lawful = p.lawful; wide = p.wide; rests = p.rests; eighth = h; inside = p.inside }

-- row k of a group, by the group's first
pub group_row : (w at first i k : ℕ) → (first + i) * w ≡ 8 * at → (first + (i + k)) * w ≡ 8 * at + k * w
group_row w at first i k e = omega (arith, add-mul first i w, add-mul first (i + k) w, add-mul i k w)

-- ---- groups of eight

-- a row whose number is a multiple of eight starts with a byte
pub group_starts : (w row : ℕ) → row % 8 ≡ 0 → row * w ≡ 8 * (row * w / 8)
group_starts w row e =
    let is : row ≡ 8 * (row / 8) = omega arith in
    let bits : row * w ≡ 8 * (row / 8 * w) = ap (λ (r : ℕ). r * w) is ∙ mul_assoc 8 (row / 8) w in
    omega arith

-- a group that ends at `to` or before can be loaded, where the rows before `to` can
pub group_inside : (w at first i to size : ℕ) → (first + i) * w ≡ 8 * at → i + 8 ≤ to → (first + to) * w / 8 + 8 ≤ size → at + w + 8 ≤ size
group_inside w at first i to size e h inside =
    let more : (first + i + 8) * w ≤ (first + to) * w = mul-le-mul_right w (omega arith) in
    omega (arith, add-mul (first + i) 8 w)

-- the next group
pub group_next : (w at first i : ℕ) → (first + i) * w ≡ 8 * at → (first + (i + 8)) * w ≡ 8 * (at + w)
group_next w at first i e = group_row w at first i 8 e ∙ omega arith

-- what the loop over groups holds to: entry i starts with byte `at`, and so many rows stand in the list
pub record Grouping (w first from to : ℕ) (area before list : List ℕ) (at i : ℕ) : Type 0 where
  pub low : from ≤ i
  pub high : i ≤ to
  pub eights : (to - i) % 8 ≡ 0
  pub place : (first + i) * w ≡ 8 * at
  pub kept : length list ≡ length before
  pub done : Unpacked w area first from before → Unpacked w area first i list

-- how long a part of a list is
pub part_length : (from to : ℕ) (list : List ℕ) → to ≤ length list → length (take (to - from) (drop from list)) ≡ to - from
part_length from to list h = length-take-le (to - from) (drop from list) (omega (arith, length-drop from list))

-- and the one over single rows: so many entries of the list's part that begins at `from` are done, and the next row's first bit is `bit`
pub record Single (w first from : ℕ) (area part : List ℕ) (bit n : ℕ) : Type 0 where
  pub place : bit ≡ (first + (from + n)) * w
  pub done : (k : ℕ) → k < n → get_or part k 0 ≡ unpack w area (first + (from + k))

module _ {w first from : ℕ} {area part : List ℕ} {bit n : ℕ} (s : Single w first from area part bit n) where
  pub single_more : {v : ℕ} → n < length part → v ≡ unpack w area (first + (from + n)) → Single w first from area (set part n v) (bit + w) (n + 1)
  single_more {v} h e = record {
    place = omega (arith, s.place, row_next w (first + from) n, ap (λ (r : ℕ). r * w) (row_of n), ap (λ (r : ℕ). r * w) (row_of (n + 1)));
    done = λ (k : ℕ) (less : k < n + 1).
        ⊎_elim
        (λ (is : k ≡ n). rw is (get_or-set_same part n v 0 h ∙ e))
        (λ (before : k < n). get_or-set_other part n k v 0 (λ (q : k ≡ n). omega arith) ∙ s.done k before)
        (eq-or-lt_of_le (omega arith));
  }
    where
      row_of : (k : ℕ) → first + from + k ≡ first + (from + k)
      row_of k = omega arith

  -- the part is put back between what stood before it and behind it
  pub single_ends : {to : ℕ} {before : List ℕ} (behind : List ℕ) → from ≤ length before → to ≤ from + n → n ≤ length part → Unpacked w area first from before → Unpacked w area first to (take from before ++ (part ++ behind))
  single_ends {to} {before} behind inside far some u =
      let front : length (take from before) ≡ from = length-take-le from before inside in
      record {
        sofar = λ (i : ℕ) (k : i < to).
            ⊎_elim
            (λ (low : i < from). get_or-append (take from before) (part ++ behind) 0 i (omega arith) ∙ get_or-take from before i 0 low ∙ u.sofar i low)
            (λ (high : from ≤ i).
            let here : from + (i - from) ≡ i = omega arith in
            get_or-append_right (take from before) (part ++ behind) from i 0 front high
            ∙ get_or-append part behind 0 (i - from) (omega arith)
            ∙ s.done (i - from) (omega arith)
            ∙ ap (λ (r : ℕ). unpack w area (first + r)) here)
            (below_or i from);
      }
