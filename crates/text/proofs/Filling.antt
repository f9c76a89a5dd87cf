-- The loop that fills a buffer with rows' text, over any text: what holds at each turn, at its start, after a row, and at its end.
--     Filling                                     the answer and the buffer at the end are those so far, with the chunk from here on
--     filling_starts, filling_more                at the start; after the next row's text
--     filling_rows, -bytes, -list, -answer        where nothing is left to take, they are the chunk's
-- Assumes nothing.
use Prim.Native.Nat.{ℕ, ◌+◌, ◌-◌, ◌≤◌, ◌<◌}
use mathlib.Core.Path.{◌≡◌, refl, sym, ap, ◌∙◌}
use mathlib.Core.List.{List, [], ◌++◌}
use native.Mathlib.Omega.{arith}
use lib.ListN.{length, length-append}
use lib.Seq.{sets, length-sets}
use Rattle.format.specs.Outcome.{Wrote}
use Rattle.format.specs.Listing.{row_texts}
use Rattle.format.proofs.Stores.{sets-append}
use Rattle.text.specs.declared.Filled.{Filled}
use Rattle.text.specs.Chunk.{chunk_rows, chunk, filled}
use Rattle.text.proofs.Chunks.{rows_more, chunk_more}

-- rows from `from` up to r are written, in `at` bytes of the buffer `old`, which is `new` now
pub record Filling (text : ℕ → List ℕ) (most rows from : ℕ) (old new : List ℕ) (r at : ℕ) : Type 0 where
  pub start : from ≤ r
  pub room : at ≤ length old
  pub kept : length new ≡ length old
  pub taken : chunk_rows text most rows (length old) from ≡ (r - from) + chunk_rows text most rows (length old - at) r
  pub long : length (chunk text most rows (length old) from) ≡ at + length (chunk text most rows (length old - at) r)
  pub goal : sets old 0 (chunk text most rows (length old) from) ≡ sets new at (chunk text most rows (length old - at) r)

module _ (text : ℕ → List ℕ) (most rows : ℕ) where
  pub filling_starts : (from : ℕ) (old : List ℕ) → Filling text most rows from old old from 0
  filling_starts from old =
      let all : length old ≡ length old - 0 = omega arith in
      record {
        start = omega arith;
        room = omega arith;
        kept = refl;
        taken = omega (arith, ap (λ (room : ℕ). chunk_rows text most rows room from) all);
        long = omega (arith, ap (λ (room : ℕ). length (chunk text most rows room from)) all);
        goal = ap (λ (room : ℕ). sets old 0 (chunk text most rows room from)) all;
      }

module _ {text : ℕ → List ℕ} {most rows from r at : ℕ} {old new : List ℕ} (f : Filling text most rows from old new r at) where
  -- the next row's text was written
  pub filling_more : {later : List ℕ} {next : ℕ} → r < rows → most ≤ length new - at → Wrote new at (text r) later next → next ≤ at + most
      → Filling text most rows from old later (r + 1) next
  filling_more {later} {next} more free w short =
      let kept = f.kept in
      let ends = w.ends in
      let left : length old - at - length (text r) ≡ length old - next = omega arith in
      let there : most ≤ length old - at = omega arith in
      let after : chunk text most rows (length old - at) r ≡ text r ++ chunk text most rows (length old - next) (r + 1) =
      chunk_more text most rows (length old - at) r more there ∙ ap (λ (room : ℕ). text r ++ chunk text most rows room (r + 1)) left in
      record {
        start = omega arith;
        room = omega arith;
        kept = ap length w.list ∙ length-sets new at (text r) ∙ kept;
        taken = omega (arith, f.taken, rows_more text most rows (length old - at) r more there, ap (λ (room : ℕ). chunk_rows text most rows room (r + 1)) left);
        long = omega (arith, f.long, ap length after, length-append (text r) (chunk text most rows (length old - next) (r + 1)));
        goal =
            f.goal
            ∙ ap (sets new at) after
            ∙ sym (sets-append (text r) new at (chunk text most rows (length old - next) (r + 1)))
            ∙ rw (← w.list, ← w.ends);
      }

  module _ (none : chunk_rows text most rows (length old - at) r ≡ 0) where
    -- nothing is left to take
    no_text : chunk text most rows (length old - at) r ≡ []
    unfolding row_texts
    no_text = ap (row_texts text r) none

    pub filling_rows : r - from ≡ chunk_rows text most rows (length old) from
    filling_rows = omega (arith, f.taken)

    pub filling_bytes : at ≡ length (chunk text most rows (length old) from)
    filling_bytes = omega (arith, f.long, ap length no_text)

    pub filling_list : new ≡ sets old 0 (chunk text most rows (length old) from)
    filling_list = sym (f.goal ∙ ap (sets new at) no_text)

    pub filling_answer : {n : ℕ} → from + n ≡ r → ◌≡◌ {A = Filled} (record { rows = n; bytes = at }) (filled text most rows (length old) from)
    filling_answer {n} ends =
        let counted : n ≡ chunk_rows text most rows (length old) from = omega (arith, filling_rows) in
        let long = filling_bytes in
        λ i. record { rows = counted i; bytes = long i }
