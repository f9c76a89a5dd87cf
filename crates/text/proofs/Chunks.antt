-- Chunks of rows' text, over any text of a row and the most bytes that one takes.
--     texts_split                   the text of rows, and then of more rows
--     chunk_none, chunk_full        no row left, or no room for a longest text: nothing is taken
--     rows_more, chunk_more         else the next row's text, and then what a chunk takes from there on
--     chunk_most, chunk_some        no more rows than are left; one at least, where one is left and a longest text has room
--     chunks_all                    chunk after chunk is the text of all rows
--     Took, took                    what a caller that goes on from chunk to chunk has of an answer
-- Assumes nothing.
use Prim.Native.Nat.{ℕ, zero, suc, ◌+◌, ◌-◌, ◌≤◌, ◌<◌}
use mathlib.Core.Path.{◌≡◌, refl, sym, ap, ◌∙◌}
use mathlib.Core.Logic.{⊎_elim}
use mathlib.Core.List.{List, ◌++◌, append_assoc}
use native.Mathlib.Nat.{add-zero, zero-add, suc-add, add-suc}
use native.Mathlib.Numerals.{add-one}
use native.Mathlib.Omega.{arith}
use borrow.Author.Tests.{lt-ltb, le-ltb}
use lib.ListN.{length}
use Rattle.format.specs.Listing.{row_texts}
use Rattle.format.proofs.Lists.{below_or}
use Rattle.text.specs.Chunk.{rows_for, chunk_rows, chunk, chunks}

-- ---- text

module _ (text : ℕ → List ℕ) where
  -- of m rows, and then of n more
  pub texts_split : (r m n : ℕ) → row_texts text r (m + n) ≡ row_texts text r m ++ row_texts text (r + m) n
  unfolding row_texts
  texts_split r zero n = ap (row_texts text r) (zero-add n) ∙ ap (λ (k : ℕ). row_texts text k n) (sym (add-zero r))
  texts_split r (suc m) n =
      ap (row_texts text r) (suc-add m n)
      ∙ ap (λ (l : List ℕ). text r ++ l) (texts_split (suc r) m n)
      ∙ ap (λ (k : ℕ). text r ++ (row_texts text (suc r) m ++ row_texts text k n)) (suc-add r m ∙ sym (add-suc r m))
      ∙ sym (append_assoc (text r) (row_texts text (suc r) m) (row_texts text (r + suc m) n))

-- ---- a chunk

module _ (text : ℕ → List ℕ) (most : ℕ) where
  -- no room for a longest text
  rows_full : (room r n : ℕ) → room < most → rows_for text most room r n ≡ 0
  unfolding rows_for
  rows_full room r zero h = refl
  rows_full room r (suc n) h = simp (lt-ltb room most h)

  -- room for it
  rows_next : (room r n : ℕ) → most ≤ room → rows_for text most room r (suc n) ≡ suc (rows_for text most (room - length (text r)) (suc r) n)
  unfolding rows_for
  rows_next room r n h = simp (le-ltb room most h)

  -- no more rows than there are
  rows_most : (n room r : ℕ) → rows_for text most room r n ≤ n
  unfolding rows_for
  rows_most zero room r = omega arith
  rows_most (suc n) room r =
      ⊎_elim
      (λ full. omega (arith, rows_full room r (suc n) full))
      (λ free. omega (arith, rows_next room r n free, rows_most n (room - length (text r)) (suc r)))
      (below_or room most)

module _ (text : ℕ → List ℕ) (most rows : ℕ) where
  -- no row is left
  pub chunk_none : (room r : ℕ) → rows ≤ r → chunk_rows text most rows room r ≡ 0
  unfolding rows_for
  chunk_none room r h =
      let none : rows - r ≡ 0 = omega arith in
      ap (rows_for text most room r) none

  -- no room is left
  pub chunk_full : (room r : ℕ) → room < most → chunk_rows text most rows room r ≡ 0
  chunk_full room r h = rows_full text most room r (rows - r) h

  -- the next row, and those for which the rest has room
  pub rows_more : (room r : ℕ) → r < rows → most ≤ room → chunk_rows text most rows room r ≡ suc (chunk_rows text most rows (room - length (text r)) (r + 1))
  rows_more room r more free =
      let left : rows - r ≡ suc (rows - suc r) = omega arith in
      rw add-one (ap (rows_for text most room r) left ∙ rows_next text most room r (rows - suc r) free)

  -- and their text
  pub chunk_more : (room r : ℕ) → r < rows → most ≤ room → chunk text most rows room r ≡ text r ++ chunk text most rows (room - length (text r)) (r + 1)
  unfolding row_texts
  chunk_more room r more free =
      ap (row_texts text r) (rows_more room r more free)
      ∙ ap (λ (k : ℕ). text r ++ row_texts text k (chunk_rows text most rows (room - length (text r)) (r + 1))) (sym (add-one r))

  -- no more rows than are left
  pub chunk_most : (room r : ℕ) → chunk_rows text most rows room r ≤ rows - r
  chunk_most room r = rows_most text most (rows - r) room r

  -- one at least, where one is left and a longest text has room
  pub chunk_some : (room r : ℕ) → r < rows → most ≤ room → 0 < chunk_rows text most rows room r
  chunk_some room r more free = omega (arith, rows_more room r more free)

  -- ---- chunk after chunk

  -- the text of all rows, where a longest one has room and there are calls enough
  pub chunks_all : (turns room r : ℕ) → most ≤ room → rows - r ≤ turns → chunks turns text most rows room r ≡ row_texts text r (rows - r)
  unfolding chunks row_texts
  chunks_all zero room r free enough =
      let none : 0 ≡ rows - r = omega arith in
      ap (row_texts text r) none
  chunks_all (suc turns) room r free enough =
      let k = chunk_rows text most rows room r in
      let all : k ≤ rows - r = chunk_most room r in
      let fewer : rows - (r + k) ≤ turns = ⊎_elim (λ more. omega (arith, chunk_some room r more free)) (λ over. omega arith) (below_or r rows) in
      let whole : k + (rows - (r + k)) ≡ rows - r = omega arith in
      ap (λ (l : List ℕ). row_texts text r k ++ l) (chunks_all turns room (r + k) free fewer)
      ∙ sym (texts_split text r k (rows - (r + k)))
      ∙ ap (row_texts text r) whole

-- what a caller that goes on from chunk to chunk has of an answer's rows: one at least, and none but those that are left
pub record Took (rows from taken : ℕ) : Type 0 where
  pub some : 0 < taken
  pub most : from + taken ≤ rows

-- it has that where a row is left and a longest text has room
pub took : (text : ℕ → List ℕ) (most rows room from taken : ℕ) → taken ≡ chunk_rows text most rows room from → from < rows → most ≤ room → Took rows from taken
took text most rows room from taken answer more free =
    record { some = omega (arith, chunk_some text most rows room from more free); most = omega (arith, chunk_most text most rows room from) }
