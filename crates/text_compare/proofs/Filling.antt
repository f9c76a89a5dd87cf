-- The loop that fills a buffer with the lines of rows that differ, over any two readings: that of any text (text/proofs/Filling), and a count.
--     Pairing                              what holds at each turn
--     pairing_starts, pairing_more         at the start; after a row
--     pairing_answer, pairing_list         where nothing is left to take, answer and buffer are the chunk's
--     Paired, paired                       what a caller that goes on from chunk to chunk has of an answer
-- Assumes nothing.
use Prim.Native.Nat.{ℕ, ◌+◌, ◌-◌, ◌≤◌, ◌<◌}
use mathlib.Core.Path.{◌≡◌, sym, ap, ◌∙◌}
use mathlib.Core.List.{List}
use native.Mathlib.Omega.{arith}
use lib.ListN.{length}
use lib.Seq.{sets}
use Rattle.format.specs.Outcome.{Outcome, Wrote, pick}
use Rattle.format.specs.Lookup.{rows_passing}
use Rattle.format.specs.Comparing.{equal_answers, differing}
use Rattle.text.proofs.Chunks.{Took, took}
use Rattle.text.proofs.Filling.{Filling, filling_starts, filling_more, filling_rows, filling_bytes, filling_list}
use Rattle.text_compare.specs.declared.Compared.{Compared}
use Rattle.text_compare.specs.Chunk.{pair_max, pair_text, text_of, pair_rows, pair_chunk, compared_in}
use Rattle.text_compare.proofs.Differing.{count_next, count_most}

-- rows from `from` up to r are looked at, with so many lines in `at` bytes of the buffer `old`, which is `new` now
pub record Pairing (left right : ℕ → Outcome ℕ) (rows from : ℕ) (old new : List ℕ) (r lines at : ℕ) : Type 0 where
  pub text : Filling (text_of left right) pair_max rows from old new r at
  pub counted : lines ≡ length (differing left right from (r - from))

module _ (left right : ℕ → Outcome ℕ) (rows : ℕ) where
  pub pairing_starts : (from : ℕ) (old : List ℕ) → Pairing left right rows from old old from 0 0
  unfolding rows_passing
  pairing_starts from old =
      let none : from - from ≡ 0 = omega arith in
      record { text = filling_starts (text_of left right) pair_max rows from old; counted = sym (ap (λ (n : ℕ). length (differing left right from n)) none) }

module _ {left right : ℕ → Outcome ℕ} {rows from r lines at : ℕ} {old new : List ℕ} (p : Pairing left right rows from old new r lines at) where
  -- no more lines than rows
  pub pairing_few : lines ≤ r - from
  pairing_few = omega (arith, p.counted, count_most left right (r - from) from)

  -- the next row's answers were read, and its text written
  pub pairing_more : {a b : Outcome ℕ} {later : List ℕ} {more next : ℕ} → r < rows → pair_max ≤ length new - at → a ≡ left r → b ≡ right r
      → Wrote new at (pair_text r a b) later next → next ≤ at + pair_max → more ≡ lines + pick (equal_answers a b) 0 1
      → Pairing left right rows from old later (r + 1) more next
  pairing_more {a} {b} {later} {more} {next} inside free la rb wrote short one =
      let start = p.text.start in
      let w : Wrote new at (text_of left right r) later next = rw (la, rb) at wrote in
      let here : from + (r - from) ≡ r = omega arith in
      let further : r + 1 - from ≡ r - from + 1 = omega arith in
      let same : ◌≡◌ {A = ℕ} (pick (equal_answers (left (from + (r - from))) (right (from + (r - from)))) 0 1) (pick (equal_answers a b) 0 1) = rw (here, ← la, ← rb) in
      record {
        text = filling_more p.text inside free w short;
        counted = omega (arith, p.counted, one, same, count_next left right from (r - from), ap (λ (n : ℕ). length (differing left right from n)) further);
      }

  module _ (none : pair_rows left right rows (length old - at) r ≡ 0) where
    pub pairing_answer : {n : ℕ} → from + n ≡ r → ◌≡◌ {A = Compared} (record { rows = n; lines = lines; bytes = at }) (compared_in left right rows (length old) from)
    pairing_answer {n} ends =
        let looked : n ≡ pair_rows left right rows (length old) from = omega (arith, filling_rows p.text none) in
        let behind : r - from ≡ n = omega arith in
        let counted : lines ≡ length (differing left right from (pair_rows left right rows (length old) from)) =
        p.counted ∙ ap (λ (n : ℕ). length (differing left right from n)) (behind ∙ looked) in
        let long = filling_bytes p.text none in
        λ i. record { rows = looked i; lines = counted i; bytes = long i }

    pub pairing_list : new ≡ sets old 0 (pair_chunk left right rows (length old) from)
    pairing_list = filling_list p.text none

-- what a caller that goes on from chunk to chunk has of an answer: a row at least, none but those that are left, and no more lines than rows
pub record Paired (rows from : ℕ) (r : Compared) : Type 0 where
  pub rows_took : Took rows from r.rows
  pub few : r.lines ≤ r.rows

pub paired : (left right : ℕ → Outcome ℕ) (rows room from : ℕ) (r : Compared) → r ≡ compared_in left right rows room from → from < rows → pair_max ≤ room → Paired rows from r
paired left right rows room from r answer more free =
    let looked = ap (λ (f : Compared). f.rows) answer in
    let lines = ap (λ (f : Compared). f.lines) answer in
    record {
      rows_took = took (text_of left right) pair_max rows room from r.rows looked more free;
      few = omega (arith, count_most left right (pair_rows left right rows room from) from);
    }
