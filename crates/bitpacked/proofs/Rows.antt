-- A number of the width of the count, read from the bytes from the area's start on, is a Bitpacked column's row.
--     number_is, value_is, row_is
--     multiples_read, heights_read                  rows unpacked into a list: as multiples, and as heights above the minimum where the gcd is 1
-- Assumes nothing.
use Prim.Native.Nat.{ℕ, ◌+◌, ◌-◌, ◌*◌, ◌^◌, ◌<◌}
use mathlib.Core.Path.{◌≡◌, refl, sym, ap, ◌∙◌}
use mathlib.Core.List.{List}
use native.Mathlib.Nat.{add-zero}
use native.Mathlib.Omega.{arith}
use lib.ListN.{length, take, drop, get_or}
use borrow.Author.Rules.{part_to_end}
use Rattle.format.specs.declared.Block.{Block}
use Rattle.format.specs.declared.Codec.{Codec}
use Rattle.format.specs.declared.Codec.TheVariants.{Bitpacked}
use Rattle.format.specs.declared.Column.{Column}
use Rattle.format.specs.Outcome.{Outcome}
use Rattle.format.specs.Packing.{width, unpack}
use Rattle.bitpacker.specs.Runs.{Unpacked}
use Rattle.raising.specs.Raising.{reached, ReadBy}
use Rattle.raising.proofs.Filling.{plain_row}
use Rattle.format.specs.Reading.{place_in, packed_of, scaled, value_in, value_at}

module _ (col : Column) (b : Block) (s : List ℕ) (r : ℕ) (codec : col.codec ≡ Bitpacked) where
  pub number_is : {w n : ℕ} → w ≡ width col.count → n ≡ unpack w (take (length s - col.start) (drop col.start s)) r → n ≡ packed_of col b s r
  unfolding packed_of place_in
  number_is {w} {n} wide e =
      rw (codec, add-zero)
      (e ∙ rw (part_to_end s col.start, wide))

  pub value_is : {o : Outcome ℕ} {n : ℕ} → n ≡ packed_of col b s r → o ≡ scaled col r n → o ≡ value_at col b s r
  unfolding value_in
  value_is is e = e ∙ ap (scaled col r) is ∙ ap (λ (k : Codec). value_in k col b r (packed_of col b s r)) (sym codec)

  pub row_is : {w : ℕ} → w ≡ width col.count → scaled col r (unpack w (take (length s - col.start) (drop col.start s)) r) ≡ value_at col b s r
  row_is wide = value_is (number_is wide refl) refl

-- ---- rows unpacked into a list

module _ (col : Column) (area : List ℕ) (w first n : ℕ) (raw : List ℕ) (long : length raw ≡ n) (u : Unpacked w area first n raw) where
  pub multiples_read : ReadBy (λ (i r v : ℕ). scaled col r v) (λ (r : ℕ). scaled col r (unpack w area r)) first raw
  multiples_read = record { each = λ (i : ℕ) (h : i < length raw). ap (scaled col (first + i)) (sym (u.sofar i (omega arith))) }

  pub heights_read : col.gcd ≡ 1 → col.minimum + col.count * col.gcd < 2 ^ 64
      → ReadBy (λ (i r v : ℕ). reached col.minimum col.count r v) (λ (r : ℕ). scaled col r (unpack w area r)) first raw
  heights_read one bounds = record { each = λ (i : ℕ) (h : i < length raw). multiples_read.each i h ∙ plain_row col (first + i) (get_or raw i 0) one bounds }
