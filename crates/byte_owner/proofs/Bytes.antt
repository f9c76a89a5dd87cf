-- What the calls answer of a byte's rows, by their tests; and of a column that opens: every byte has its part and its rows.
--     rows_unfit, rows_found       the answers by the tests
--     all_told                     of a column that opens, every byte is explained, and what lies behind the last is refused
-- Assumes nothing.
use Rattle.std.specs.Prelude.{Option}
use Prim.Native.Nat.{ℕ, ◌+◌, ◌≤◌, ◌<◌}
use mathlib.Core.Path.{◌≡◌, refl, sym}
use mathlib.Core.Bool.{true, false}
use mathlib.Core.List.{List, [], ◌∷◌}
use lib.ListN.{length}
use borrow.Author.Tests.{lt-ltb, le-ltb, le-leb}
use Rattle.format.specs.declared.Block.{Block}
use Rattle.format.specs.declared.Column.{Column}
use Rattle.format.specs.declared.Part.{Part}
use Rattle.format.specs.Outcome.{Outcome.value, Outcome.refusal}
use Rattle.format.specs.Opening.{Loaded, opened}
use Rattle.format.specs.Parts.{parts_of, owners_at}
use Rattle.format.specs.Blame.{holding}
use Rattle.format.proofs.Laid.{opened_laid}
use Rattle.format.proofs.Parts.{all_parted}
use Rattle.byte_part.specs.Bytes.{fits_at, part_of}
use Rattle.byte_part.proofs.Bytes.{part_unfit, part_found}
use Rattle.byte_owner.specs.Bytes.{rows_of}

module _ (s : List ℕ) (col : Column) (i : ℕ) where
  pub rows_unfit : (t : List Block) → fits_at s col i ≡ false → refusal 13 [] ≡ rows_of s col t i
  unfolding rows_of
  rows_unfit t e = rw e

  pub rows_found : (t : List Block) → fits_at s col i ≡ true → (o : Option (ℕ × ℕ)) → o ≡ owners_at col t i → value o ≡ rows_of s col t i
  unfolding rows_of
  rows_found t e o is = rw (e, is)

-- of a column that opens: the part of every byte is the one that holds it, its rows are those that own a bit of it; an offset past the bytes is refused
pub record Told (s : List ℕ) (o : Loaded) : Type 0 where
  pub part : (i : ℕ) → i < length s → (p : Part) × (part_of s o.column i ≡ value p) × (holding (parts_of s o.column) i ≡ p ∷ [])
  pub rows : (i : ℕ) → i < length s → rows_of s o.column o.table i ≡ value (owners_at o.column o.table i)
  pub past : (i : ℕ) → length s ≤ i → (part_of s o.column i ≡ refusal 13 []) × (rows_of s o.column o.table i ≡ refusal 13 [])

pub all_told : (s : List ℕ) (room : ℕ) (o : Loaded) → opened s room ≡ value o → Told s o
all_told s room o opens =
    let col = o.column in
    let area = le-leb (col.start + col.size) (length s) (opened_laid s room o opens).area in
    let fit : (i : ℕ) → i < length s → fits_at s col i ≡ true = λ i h. rw (area, lt-ltb i (length s) h) in
    let past : (i : ℕ) → length s ≤ i → fits_at s col i ≡ false = λ i h. rw (area, le-ltb i (length s) h) in
    record {
      part = λ i h.
          let one = (all_parted s room o opens).each i h in
          (one.0, sym (part_found s col i (fit i h) one.0 one.1), one.2);
      rows = λ i h. sym (rows_found s col i o.table (fit i h) (owners_at col o.table i) refl);
      past = λ i h. (sym (part_unfit s col i (past i h)), sym (rows_unfit s col i o.table (past i h)));
    }
