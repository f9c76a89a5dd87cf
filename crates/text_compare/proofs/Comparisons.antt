-- What a comparison says, over any two readings.
--     stands, says_ascending        a line stands for exactly the rows at which the answers differ, ascending
--     counts_lines                  the count is the number of lines before it
--     nothing_differs               the text is `lines 0` exactly if the answers at all rows are equal
--     compared_self                 a reading compared with itself
--     chunks-compared               chunk after chunk and the last line are the whole text
-- Assumes nothing.
use Prim.Native.Nat.{ℕ, zero, suc, ◌+◌, ◌-◌, ◌≤◌, ◌<◌}
use mathlib.Core.Path.{◌≡◌, refl, ap}
use mathlib.Core.Bool.{true, false}
use mathlib.Core.Logic.{◌↔◌, ⊎_elim}
use mathlib.Core.List.{◌++◌, Memᴰ}
use native.Mathlib.Nat.{zero-add}
use native.Mathlib.Omega.{arith}
use borrow.Author.Tests.{eq-eqb, not-true}
use lib.ListN.{length}
use Rattle.format.specs.Outcome.{Outcome, Outcome.value, Outcome.refusal}
use Rattle.format.specs.Listing.{ascii, named_line}
use Rattle.format.specs.Comparing.{equal_answers, differ, differing, pair_lines, compared}
use Rattle.format.proofs.Lists.{below_or}
use Rattle.format.proofs.Lookups.{Ascending, Asked, ascends, found_asked, asked_found}
use Rattle.text.specs.Chunk.{chunks}
use Rattle.text.proofs.Chunks.{chunk_most, chunk_some, chunks_all}
use Rattle.text_compare.specs.Chunk.{pair_max, text_of, pair_rows, line_counts}
use Rattle.text_compare.proofs.Differing.{count_none, count_split, pair_texts, none_differ, all_equal}
use Rattle.text_compare.proofs.Feeds.{feeds, lines_feeds, name_feeds, named_line_feeds, compared_feeds}

-- an answer equals itself
pub equal_self : (o : Outcome ℕ) → equal_answers o o ≡ true
equal_self (value v) = eq-eqb v v refl
equal_self (refusal number also) = eq-eqb number number refl

module _ (left right : ℕ → Outcome ℕ) (rows : ℕ) where
  -- ---- which rows have a line

  -- exactly those at which the answers differ
  pub stands : (x : ℕ) → Memᴰ x (differing left right 0 rows) ↔ ((x < rows) × (equal_answers (left x) (right x) ≡ false))
  stands x = (there, back)
    where
      there : Memᴰ x (differing left right 0 rows) → (x < rows) × (equal_answers (left x) (right x) ≡ false)
      there m =
          let a : Asked value (differ left right) 0 rows x = found_asked value (differ left right) 0 rows x m in
          (omega (arith, a.to), not-true (equal_answers (left x) (right x)) a.passed)

      back : (x < rows) × (equal_answers (left x) (right x) ≡ false) → Memᴰ x (differing left right 0 rows)
      back h = asked_found value (differ left right) 0 rows x (record { from = omega arith; to = omega (arith, h.0); passed = rw h.1 })

  -- one behind the other
  pub says_ascending : Ascending 0 (differing left right 0 rows)
  says_ascending = ascends value (differ left right) 0 rows

  -- ---- how many lines

  -- the text is lines, and then their count
  pub counts_lines : compared left right rows ≡ pair_lines left right (differing left right 0 rows) ++ named_line (ascii "lines ") (feeds (pair_lines left right (differing left right 0 rows)))
  unfolding compared
  counts_lines = rw (lines_feeds left right (differing left right 0 rows))

  -- none exactly if the answers at all rows are equal
  pub nothing_differs : (compared left right rows ≡ named_line (ascii "lines ") 0) ↔ ((x : ℕ) → x < rows → equal_answers (left x) (right x) ≡ true)
  unfolding compared pair_lines
  nothing_differs = (there, back)
    where
      there : compared left right rows ≡ named_line (ascii "lines ") 0 → (x : ℕ) → x < rows → equal_answers (left x) (right x) ≡ true
      there e x h =
          let none : length (differing left right 0 rows) ≡ 0 =
          omega (arith, compared_feeds left right rows, ap feeds e, named_line_feeds (ascii "lines ") 0 name_feeds) in
          rw (zero-add x) at (all_equal left right rows 0 none x h)

      back : ((x : ℕ) → x < rows → equal_answers (left x) (right x) ≡ true) → compared left right rows ≡ named_line (ascii "lines ") 0
      back h = rw (none_differ left right 0 rows (λ x low high. h x (omega arith)))

  -- ---- chunk after chunk

  -- the lines of all calls together
  counts_all : (turns room r : ℕ) → pair_max ≤ room → rows - r ≤ turns → line_counts turns left right rows room r ≡ length (differing left right r (rows - r))
  unfolding line_counts
  counts_all zero room r free enough =
      let none : 0 ≡ rows - r = omega arith in
      let same : length (differing left right r 0) ≡ length (differing left right r (rows - r)) = ap (λ (n : ℕ). length (differing left right r n)) none in
      omega (arith, same, count_none left right r)
  counts_all (suc turns) room r free enough =
      let k = pair_rows left right rows room r in
      let most : k ≤ rows - r = chunk_most (text_of left right) pair_max rows room r in
      let fewer : rows - (r + k) ≤ turns = ⊎_elim (λ more. omega (arith, chunk_some (text_of left right) pair_max rows room r more free)) (λ over. omega arith) (below_or r rows) in
      let whole : k + (rows - (r + k)) ≡ rows - r = omega arith in
      omega (
        arith,
        counts_all turns room (r + k) free fewer,
        count_split left right r k (rows - (r + k)),
        ap (λ (n : ℕ). length (differing left right r n)) whole,
      )

  -- the lines of all calls, and the last line with the sum of what they counted
  pub chunks-compared : (room : ℕ) → pair_max ≤ room
      → chunks rows (text_of left right) pair_max rows room 0 ++ named_line (ascii "lines ") (line_counts rows left right rows room 0) ≡ compared left right rows
  unfolding compared
  chunks-compared room free =
      let all : rows - 0 ≡ rows = omega arith in
      rw (
        chunks_all (text_of left right) pair_max rows rows room 0 free (omega arith),
        counts_all rows room 0 free (omega arith),
        all,
        ← pair_texts left right 0 rows,
      )

-- a reading compared with itself
pub compared_self : (read : ℕ → Outcome ℕ) (rows : ℕ) → compared read read rows ≡ named_line (ascii "lines ") 0
compared_self read rows = (nothing_differs read read rows).1 (λ x h. equal_self (read x))
