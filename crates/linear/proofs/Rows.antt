-- A number read from the bytes from the area's start on is a Linear column's row: the line plus it is the row's value, if the bounds have it.
--     value_is, row_is
--     heights_read                rows unpacked into a list, by heights above the low bound
-- Assumes nothing.
use Prim.Native.Nat.{ℕ, ◌+◌, ◌-◌, ◌*◌, ◌^◌, ◌≤◌, ◌<◌}
use mathlib.Core.Path.{◌≡◌, refl, sym, ap, ◌∙◌}
use mathlib.Core.Bool.{Bool, true, false, ◌&&◌}
use mathlib.Core.Logic.{⊎_elim}
use mathlib.Core.List.{List, [], ◌∷◌}
use native.Mathlib.Nat.{add-zero}
use native.Mathlib.Omega.{arith}
use lib.Dec.{leb}
use lib.ListN.{length, take, drop, get_or}
use borrow.Author.Tests.{le-leb, lt-leb, leb-true, leb-false}
use borrow.Author.Rules.{part_to_end}
use Rattle.format.specs.declared.Block.{Block}
use Rattle.format.specs.declared.Codec.TheVariants.{Linear}
use Rattle.format.specs.declared.Column.{Column}
use Rattle.format.specs.declared.Line.{Line}
use Rattle.format.specs.Outcome.{Outcome.value, ◌>>◌, demand}
use Rattle.format.specs.Word.{mod_add, mod_sub}
use Rattle.format.proofs.Lists.{below_or}
use Rattle.format.proofs.Words.{add_below}
use Rattle.bitpacker.specs.Runs.{Unpacked}
use Rattle.raising.specs.Raising.{above_line, reached, ReadBy}
use Rattle.format.specs.Line.{line_at}
use Rattle.format.specs.Packing.{unpack}
use Rattle.format.specs.Reading.{place_in, packed_of, value_in, value_at}
use Rattle.linear.specs.Reader.{bounded}

module _ (col : Column) (b : Block) (s : List ℕ) (l : Line) (w r : ℕ) (codec : col.codec ≡ Linear l w) where
  pub value_is : {n at v : ℕ} {t : Bool}
      → n ≡ unpack w (take (length s - col.start) (drop col.start s)) r → at ≡ line_at l r → v ≡ mod_add at n
      → (leb col.minimum v && leb v (col.minimum + col.gcd * col.count)) ≡ t
      → (demand t 14 (r ∷ []) >> value v) ≡ value_at col b s r
  unfolding value_in packed_of place_in
  value_is number line sum test =
      rw (← test, codec, add-zero, sum, line, number, part_to_end s col.start)

  pub row_is : bounded col.minimum (col.minimum + col.gcd * col.count) r (mod_add (line_at l r) (unpack w (take (length s - col.start) (drop col.start s)) r)) ≡ value_at col b s r
  row_is = value_is refl refl refl refl

-- a value between the bounds lies no further above the low one than the high one does
bounded_is : (low high r v : ℕ) → low ≤ high → high < 2 ^ 64 → v < 2 ^ 64 → bounded low high r v ≡ reached low (high - low) r (mod_sub v low)
bounded_is low high r v ordered most fits = by_test (leb (mod_sub v low) (high - low)) refl
  where
    by_test : (t : Bool) → leb (mod_sub v low) (high - low) ≡ t → bounded low high r v ≡ (demand t 14 (r ∷ []) >> value (mod_add low (mod_sub v low)))
    by_test true e =
        let h : mod_sub v low ≤ high - low = leb-true (mod_sub v low) (high - low) e in
        let a : low ≤ v = omega arith in
        let b : v ≤ high = omega arith in
        rw (le-leb low v a, le-leb v high b) (ap value (omega arith))
    by_test false e =
        let h : high - low < mod_sub v low = leb-false (mod_sub v low) (high - low) e in
        ⊎_elim
        (λ (a : v < low). rw (lt-leb low v a))
        (λ (a : low ≤ v). let b : high < v = omega arith in rw (le-leb low v a, lt-leb v high b))
        (below_or v low)

-- rows unpacked into a list, by the heights of the line and the numbers above the low bound
pub heights_read : (l : Line) (area : List ℕ) (w low high first n : ℕ) (raw : List ℕ) → low ≤ high → high < 2 ^ 64 → length raw ≡ n → Unpacked w area first n raw
    → ReadBy (λ (i r v : ℕ). reached low (high - low) r (above_line l first low i v)) (λ (r : ℕ). bounded low high r (mod_add (line_at l r) (unpack w area r))) first raw
heights_read l area w low high first n raw ordered most long u = record {
  each = λ (i : ℕ) (h : i < length raw).
      ap (λ (x : ℕ). bounded low high (first + i) (mod_add (line_at l (first + i)) x)) (sym (u.sofar i (omega arith)))
      ∙ bounded_is low high (first + i) (mod_add (line_at l (first + i)) (get_or raw i 0)) ordered most (add_below _ _);
}
