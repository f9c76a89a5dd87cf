-- A number read from the bytes from a block's start on is the row's of a Blockwise column.
--     number_is         a number of the part from the block's start on is the row's
--     row_is            the line plus the number, both at the row within the block, is the row's multiple
--     multiples_read, heights_read      rows unpacked into a list: as multiples, and as heights above the minimum where the gcd is 1
-- Assumes nothing.
use Prim.Native.Nat.{ℕ, ◌+◌, ◌-◌, ◌*◌, ◌%◌, ◌^◌, ◌≤◌, ◌<◌}
use mathlib.Core.Path.{◌≡◌, sym, ap, ◌∙◌}
use mathlib.Core.Logic.{⊎_elim}
use mathlib.Core.List.{List}
use native.Mathlib.Omega.{arith}
use lib.ListN.{length, take, drop, get_or}
use borrow.Author.Rules.{part_to_end}
use Rattle.format.specs.declared.Block.{Block}
use Rattle.format.specs.declared.Column.{Column}
use Rattle.format.specs.declared.Line.{Line}
use Rattle.format.specs.Word.{mod_add, mod_sub}
use Rattle.format.proofs.Words.{add_below}
use Rattle.bitpacker.specs.Runs.{Unpacked}
use Rattle.raising.specs.Raising.{above_line, reached, ReadBy}
use Rattle.raising.proofs.Filling.{plain_row}
use Rattle.format.specs.Line.{line_at}
use Rattle.format.specs.Packing.{unpack, num_of}
use Rattle.format.specs.Reading.{place_in, packed_of, scaled, value_in, value_at}
use Rattle.blockwise_rows.specs.Reader.{Readable, numbers_start}

-- a number of no bits is 0
none : {w : ℕ} (s : List ℕ) (i : ℕ) → w ≡ 0 → 0 ≡ unpack w s i
unfolding unpack num_of
none s i e = rw e

module _ (col : Column) (b : Block) (s : List ℕ) where
  -- numbers of no bits are the same anywhere, and others have their place within the bytes
  same_number : length s < 2 ^ 64 → Readable col b s → (i : ℕ) → unpack b.bits (drop (numbers_start col b (length s)) s) i ≡ unpack b.bits (drop (col.start + b.start) s) i
  same_number short h i =
      ⊎_elim
      (λ (no_bits : b.bits ≡ 0). sym (none _ i no_bits) ∙ none _ i no_bits)
      (λ (inside : col.start + b.start ≤ length s). let at : numbers_start col b (length s) ≡ col.start + b.start = omega arith in rw at)
      h.start

  pub number_is : length s < 2 ^ 64 → Readable col b s → (i : ℕ) {at : ℕ} → at ≡ numbers_start col b (length s)
      → unpack b.bits (take (length s - at) (drop at s)) i ≡ unpack b.bits (drop (col.start + b.start) s) i
  number_is short h i {at} start = rw (part_to_end s at, start, same_number short h i)

  pub row_is : length s < 2 ^ 64 → Readable col b s → (r : ℕ) {at : ℕ} → at ≡ numbers_start col b (length s)
      → scaled col r (mod_add (line_at b.line (r % 512)) (unpack b.bits (take (length s - at) (drop at s)) (r % 512))) ≡ value_at col b s r
  unfolding value_in packed_of place_in
  row_is short h r start = rw (h.codec, number_is short h (r % 512) start)

-- ---- rows unpacked into a list

-- nothing taken from a number
less_none : (a : ℕ) → a < 2 ^ 64 → mod_sub a 0 ≡ a
less_none a h = omega arith

module _ (col : Column) (l : Line) (area : List ℕ) (w first from n : ℕ) (raw : List ℕ) (place : from ≡ first % 512) (few : first % 512 + n ≤ 512) (long : length raw ≡ n) (u : Unpacked w area from n raw) where
  pub multiples_read : ReadBy (λ (i r v : ℕ). scaled col r (mod_add (line_at l (from + i)) v)) (λ (r : ℕ). scaled col r (mod_add (line_at l (r % 512)) (unpack w area (r % 512)))) first raw
  multiples_read = record {
    each = λ (i : ℕ) (h : i < length raw).
        let at : (first + i) % 512 ≡ from + i = omega arith in
        ap (λ (x : ℕ). scaled col (first + i) (mod_add (line_at l x) (unpack w area x))) at
        ∙ ap (λ (x : ℕ). scaled col (first + i) (mod_add (line_at l (from + i)) x)) (sym (u.sofar i (omega arith)));
  }

  pub heights_read : col.gcd ≡ 1 → col.minimum + col.count * col.gcd < 2 ^ 64
      → ReadBy (λ (i r v : ℕ). reached col.minimum col.count r (above_line l from 0 i v)) (λ (r : ℕ). scaled col r (mod_add (line_at l (r % 512)) (unpack w area (r % 512)))) first raw
  heights_read one bounds = record {
    each = λ (i : ℕ) (h : i < length raw).
        let m = mod_add (line_at l (from + i)) (get_or raw i 0) in
        multiples_read.each i h
        ∙ plain_row col (first + i) m one bounds
        ∙ ap (reached col.minimum col.count (first + i)) (sym (less_none m (add_below _ _)));
  }
