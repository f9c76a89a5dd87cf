-- What the steps of the short way found is the row.
--     place_below                             the column's row is below 2^32
--     reads                                   what was found is the row, whatever the codec
--     packed_row, linear_row, blockwise_row   by the codec
-- Assumes nothing.
use mathlib.Core.Path.{◌≡◌, refl, sym, ap}
use mathlib.Core.Bool.{true}
use mathlib.Core.List.{List}
use Prim.Native.Nat.{ℕ, ◌+◌, ◌*◌, ◌/◌, ◌%◌, ◌^◌, ◌≤◌, ◌<◌}
use native.Mathlib.Nat.{mul_comm}
use native.Mathlib.Omega.{arith}
use lib.Dec.{eqb}
use lib.ListN.{length, get_or}
use borrow.Author.Tests.{lt-ltb, le-leb}
use Rattle.format.specs.declared.Block.{Block}
use Rattle.format.specs.declared.Codec.{Codec}
use Rattle.format.specs.declared.Codec.TheVariants.{Bitpacked, Linear, Blockwise}
use Rattle.format.specs.Outcome.{Outcome.value}
use Rattle.format.specs.Line.{line_at}
use Rattle.format.specs.Packing.{width, legal}
use Rattle.format.specs.Reading.{has_block, place_in, column_fits, row_fits, fits, packed_of, value_in, row_in}
use Rattle.format.specs.Word.{mod_add}
use Rattle.format.proofs.Tests.{or_true}
use Rattle.format.proofs.Widths.{width-legal, legal_narrow}
use Rattle.c_numbers.specs.Numbers.{column_with, codec_from, counts_fit, column_from}
use Rattle.c_row.specs.Short.{row_of, Shown, Bounded, Raised, Stands}

module _ (ns : List ℕ) (codec : Codec) (blocks : ℕ) (b : Block) (s : List ℕ) {r q n most : ℕ} (at : Shown ns r q) (bound : Bounded ns most)
    (block : has_block codec blocks q ≡ true) (lawful : legal (place_in codec (get_or ns 3 0) b q).bits ≡ true)
    (stands : Stands ns s (place_in codec (get_or ns 3 0) b q).start (place_in codec (get_or ns 3 0) b q).bits (place_in codec (get_or ns 3 0) b q).row n) where
  -- the three counts are below 2^32
  counts : counts_fit ns ≡ true
  counts =
      rw (lt-ltb (get_or ns 4 0) (2 ^ 32) at.few, lt-ltb (get_or ns 10 0) (2 ^ 32) (omega (arith, at.few, at.window)), lt-ltb (get_or ns 11 0) (2 ^ 32) (omega (arith, at.few, at.window)))

  -- column and bytes fit together
  column_fits_lem : column_fits (column_with ns codec) s ≡ true
  unfolding column_fits
  column_fits_lem =
      rw (le-leb (get_or ns 10 0 + get_or ns 11 0) (get_or ns 4 0) at.window, lt-ltb 0 (get_or ns 2 0) bound.step, lt-ltb (get_or ns 1 0 + get_or ns 3 0 * get_or ns 2 0) (2 ^ 64) (omega (arith, bound.most, bound.below)), le-leb (get_or ns 5 0 + get_or ns 6 0) (length s) stands.area)

  -- and so do column and table at the row
  row_fits_lem : row_fits (column_with ns codec) blocks b q ≡ true
  unfolding row_fits
  row_fits_lem = let p = place_in codec (get_or ns 3 0) b q in
      rw (block, lawful, le-leb (8 * p.start + (p.row + 1) * p.bits) (8 * get_or ns 6 0) stands.ends) (or_true (eqb p.bits 0))

  pub reads : {v : ℕ} → codec_from (get_or ns 0 0) (get_or ns 7 0) (get_or ns 8 0) (get_or ns 9 0) ≡ value codec → value_in codec (column_with ns codec) b q n ≡ value v → row_of ns blocks b s r ≡ value v
  unfolding column_from row_in fits packed_of
  reads code is =
      rw (counts, code, lt-ltb r (get_or ns 11 0) at.shown, sym at.place, column_fits_lem, row_fits_lem, sym stands.number, is) refl

-- ---- what the steps say

module _ {ns : List ℕ} {r q : ℕ} (at : Shown ns r q) where
  pub place_below : q < 2 ^ 32
  place_below = omega (arith, at.few, at.shown, at.window, at.place)

-- ---- by the codec

module _ (ns s : List ℕ) {r q n v : ℕ} (at : Shown ns r q) where
  pub packed_row : get_or ns 0 0 ≡ 0 → Stands ns s 0 (width (get_or ns 3 0)) q n → Raised ns n v → (blocks : ℕ) (b : Block) → row_of ns blocks b s r ≡ value v
  unfolding place_in codec_from value_in
  packed_row code stands up blocks b =
      reads ns Bitpacked blocks b s at up.bounded refl (width-legal (get_or ns 3 0)) stands (rw code refl) (rw (le-leb n (get_or ns 3 0) up.counted) (ap value (sym up.value_is)))

  pub linear_row : {most : ℕ} → get_or ns 0 0 ≡ 1 → get_or ns 9 0 ≤ 56 → Stands ns s 0 (get_or ns 9 0) q n → Bounded ns most
      → v ≡ mod_add (line_at (record { slope = get_or ns 7 0; intercept = get_or ns 8 0 }) q) n → get_or ns 1 0 ≤ v → v ≤ most → (blocks : ℕ) (b : Block) → row_of ns blocks b s r ≡ value v
  unfolding place_in codec_from value_in
  linear_row code narrow stands bound is low high blocks b =
      let top : v ≤ get_or ns 1 0 + get_or ns 2 0 * get_or ns 3 0 = omega (arith, high, bound.most, mul_comm (get_or ns 2 0) (get_or ns 3 0)) in
      reads ns (Linear (record { slope = get_or ns 7 0; intercept = get_or ns 8 0 }) (get_or ns 9 0)) blocks b s at bound refl (legal_narrow (get_or ns 9 0) narrow) stands
      (rw (code, lt-ltb (get_or ns 9 0) (2 ^ 8) (omega arith)) refl) (rw (sym is, le-leb (get_or ns 1 0) v low, le-leb v (get_or ns 1 0 + get_or ns 2 0 * get_or ns 3 0) top) refl)

  pub blockwise_row : (blocks : ℕ) (b : Block) → get_or ns 0 0 ≡ 2 → q / 512 < blocks → b.bits ≤ 56 → Stands ns s b.start b.bits (q % 512) n
      → Raised ns (mod_add (line_at b.line (q % 512)) n) v → row_of ns blocks b s r ≡ value v
  unfolding place_in codec_from value_in
  blockwise_row blocks b code has narrow stands up =
      reads ns Blockwise blocks b s at up.bounded (lt-ltb (q / 512) blocks has) (legal_narrow b.bits narrow) stands (rw code refl)
      (rw (le-leb (mod_add (line_at b.line (q % 512)) n) (get_or ns 3 0) up.counted) (ap value (sym up.value_is)))
