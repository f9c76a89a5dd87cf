-- The way through a comparison: what each call hands out, and that all of it is the comparison.
--     over_compared                               what the way over two columns has is the comparison of their windows' rows
--     way_on                                      what is left is the chunk, and then what is left behind it
--     begun_wrote                                 the line that beginning wrote
--     handed_first, handed_last, handed_rows      a call that hands out the line of a side; the last line; lines of rows
--     paired_few                                  fewer than 2^32 rows and lines, with what was taken
--     left, handed_less                           how many chunks a way has at most; a chunk makes it shorter
--     comparison_handed, windows_handed           all chunks together are the comparison; that of two windows
-- Assumes nothing.
use Rattle.std.specs.Prelude.{Result}
use Prim.Native.Nat.{ℕ, ◌+◌, ◌-◌, ◌^◌, ◌≤◌, ◌<◌, max}
use mathlib.Core.Path.{◌≡◌, refl, sym, ap, ◌∙◌}
use mathlib.Core.Bool.{Bool, true}
use mathlib.Core.Logic.{⊎_elim}
use mathlib.Core.List.{List, [], ◌++◌, append_assoc, append-nil}
use native.Mathlib.Nat.{zero-add}
use native.Mathlib.Omega.{arith}
use borrow.Author.Tests.{lt-ltb, le-ltb}
use lib.ListN.{length, take}
use lib.Seq.{sets, length-sets}
use Rattle.io.specs.Counts.{IsPrefixLen}
use Rattle.format.specs.Comparing.{differing, compared, comparison}
use Rattle.format.specs.Listing.{ascii, named_line, row_texts, opened_here}
use Rattle.format.specs.Opening.{Loaded}
use Rattle.format.specs.Reading.{row_at}
use Rattle.format.specs.Outcome.{Outcome, Outcome.value, Outcome.refusal, Wrote, pick}
use Rattle.format.proofs.Lists.{below_or}
use Rattle.text.specs.Way.{HandedAs, handed_all}
use Rattle.text.proofs.Chunks.{texts_split, chunk_most, chunk_some}
use Rattle.text.proofs.Ways.{line_copied, line_fits, Onward, handed_by, handed_on, Goes, all_handed}
use Rattle.text_column.specs.declared.own.Own.{Own}
use Rattle.text_column.specs.Own.{own_row, own_at, block_of, Owned}
use Rattle.text_column.proofs.Owns.{own_few, own_window, owned_first, owned_at}
use Rattle.text_column.proofs.Rows.{own_reads, opens_shows}
use Rattle.text_compare.specs.declared.Compared.{Compared}
use Rattle.text_compare.specs.declared.way.At.{At}
use Rattle.text_compare.specs.declared.way.Way.{Way}
use Rattle.text_compare.specs.declared.way.Way.TheVariants.{Open, Rows, Done}
use Rattle.text_compare.specs.Beginning.{only_line, begun, line_length, BegunAs}
use Rattle.text_compare.specs.Chunk.{pair_max, text_of, pair_rows, pair_chunk, compared_in}
use Rattle.text_compare.specs.Through.{compared_through}
use Rattle.text_compare.specs.Way.{hand_max, left_of, right_of, rows_of, at_first, at_next, rest, is_more, Stands, behind, way_of, comparison_walk}
use Rattle.text_compare.proofs.Differing.{count_none, count_split, count_most, pair_texts}
use Rattle.text_compare.proofs.Filling.{paired}

-- ---- what is left behind each chunk

-- the text of all rows and the count of lines
compared-rest : (a b : ℕ → Outcome ℕ) (rows : ℕ) → row_texts (text_of a b) 0 (rows - 0) ++ named_line (ascii "lines ") (0 + length (differing a b 0 (rows - 0))) ≡ compared a b rows
unfolding compared
compared-rest a b rows =
    let all : rows - 0 ≡ rows = omega arith in
    rw (all, zero-add (length (differing a b 0 rows)), ← pair_texts a b 0 rows)

pub over_compared : (s t : List ℕ) (left right : Own) → rest s t (Rows (at_first left right)) ≡ compared_through left.column right.column s t
over_compared s t left right = compared-rest (own_row left.column s) (own_row right.column t) (max left.column.window.rows right.column.window.rows)

-- behind the beginning: the rows and the last line, or nothing
opened_on : (s t : List ℕ) (o p : Outcome Loaded) → opened_here s ≡ o → opened_here t ≡ p
    → (comparison s t ≡ only_line o p ++ rest s t (way_of (begun s t o p))) × Stands s t (way_of (begun s t o p))
unfolding comparison
opened_on s t (refusal number also) p e f = (rw e (sym (append-nil _)), tt)
opened_on s t (value o) (refusal number also) e f = (rw (e, f) (sym (append-nil _)), tt)
opened_on s t (value o) (value p) e f =
    let rows = max o.column.window.rows p.column.window.rows in (
      rw (e, f) (sym (compared-rest (own_row o.column s) (own_row p.column t) rows
          ∙ ap (λ (read : ℕ → Outcome ℕ). compared read (own_row p.column t) rows) (own_reads s o e o.column)
          ∙ ap (λ (read : ℕ → Outcome ℕ). compared (row_at o.column o.table s) read rows) (own_reads t p f p.column))),
      (owned_first (opens_shows (record { found = o; opened = e; column = refl })), owned_first (opens_shows (record { found = p; opened = f; column = refl })), omega arith, omega arith),
    )

-- behind lines of rows: those of the others
lines_on : (a b : ℕ → Outcome ℕ) (rows room r lines : ℕ) → r < rows →
    let k = pair_rows a b rows room r in
    row_texts (text_of a b) r (rows - r) ++ named_line (ascii "lines ") (lines + length (differing a b r (rows - r)))
    ≡ pair_chunk a b rows room r
    ++ (row_texts (text_of a b) (r + k) (rows - (r + k)) ++ named_line (ascii "lines ") (lines + length (differing a b r k) + length (differing a b (r + k) (rows - (r + k)))))
lines_on a b rows room r lines more =
    let k = pair_rows a b rows room r in
    let n = rows - (r + k) in
    let split : rows - r ≡ k + n = omega (arith, chunk_most (text_of a b) pair_max rows room r) in
    let count : lines + length (differing a b r (k + n)) ≡ lines + length (differing a b r k) + length (differing a b (r + k) n) = omega (arith, count_split a b r k n) in
    ap (λ (m : ℕ). row_texts (text_of a b) r m ++ named_line (ascii "lines ") (lines + length (differing a b r m))) split
    ∙ ap (λ (m : ℕ). row_texts (text_of a b) r (k + n) ++ named_line (ascii "lines ") m) count
    ∙ ap (λ (l : List ℕ). l ++ named_line (ascii "lines ") (lines + length (differing a b r k) + length (differing a b (r + k) n))) (texts_split (text_of a b) r k n)
    ∙ append_assoc (row_texts (text_of a b) r k) (row_texts (text_of a b) (r + k) n) (named_line (ascii "lines ") (lines + length (differing a b r k) + length (differing a b (r + k) n)))

pub way_on : (s t : List ℕ) (w : Way) (room : ℕ) → Stands s t w → Onward (comparison_walk s t) w room
unfolding row_texts
way_on s t Open room stands = let on = opened_on s t (opened_here s) (opened_here t) refl refl in record { whole = on.0; stands = on.1 }
way_on s t (Rows a) room stands =
    let rows = rows_of a in
    let from = a.from.0 in
    let k = pair_rows (left_of a s) (right_of a t) rows room from in
    ⊎_elim
    (λ more. let there = lt-ltb from rows more in
    record {
      whole = rw there (lines_on (left_of a s) (right_of a t) rows room from a.lines more);
      stands = rw there (
        owned_at stands.0.shows _,
        owned_at stands.1.shows _,
        omega (arith, chunk_most (text_of (left_of a s) (right_of a t)) pair_max rows room from),
        omega (arith, stands.3, count_most (left_of a s) (right_of a t) k from),
      );
    })
    (λ over. let gone = le-ltb from rows over in
    let none : rows - from ≡ 0 = omega arith in
    let same : a.lines + length (differing (left_of a s) (right_of a t) from 0) ≡ a.lines = omega (arith, count_none (left_of a s) (right_of a t) from) in
    record { whole = rw (gone, none) (ap (named_line (ascii "lines ")) same ∙ sym (append-nil _)); stands = rw gone tt })
    (below_or from rows)
way_on s t Done room stands = record { whole = refl; stands = tt }

-- ---- a call

-- the line that beginning wrote
only_long : (s t : List ℕ) (o p : Outcome Loaded) → line_length (begun s t o p) ≡ length (only_line o p)
only_long s t (refusal number also) p = refl
only_long s t (value o) (refusal number also) = refl
only_long s t (value o) (value p) = refl

pub begun_wrote : {s t line₀ line : List ℕ} {r : Result (Own × Own) ℕ} → BegunAs s t (opened_here s) (opened_here t) r line₀ line → Wrote line₀ 0 (only_line (opened_here s) (opened_here t)) line (line_length r)
begun_wrote {s} {t} f = record { ends = ap line_length f.answer ∙ only_long s t (opened_here s) (opened_here t) ∙ sym (zero-add _); list = f.line }

module _ {s t line₀ line old new : List ℕ} {end : ℕ} (space : length line₀ ≡ 128) (free : hand_max ≤ length old) where
  pub handed_first : {r : Result (Own × Own) ℕ} {w : Way} → BegunAs s t (opened_here s) (opened_here t) r line₀ line → Wrote old 0 (take (line_length r) line) new end → w ≡ way_of r
      → HandedAs (comparison_walk s t) Open end w old new
  handed_first {r} {w} f copied is =
      let first = begun_wrote f in
      let wrote = line_copied first f.counts copied in
      handed_by (comparison_walk s t) free wrote (omega (arith, wrote.ends, first.ends, (line_fits first space f.counts free).0)) (is ∙ ap way_of f.answer) (way_on s t Open (length old) tt)

  -- the last line
  pub handed_last : {a : At} {n : ℕ} → Stands s t (Rows a) → rows_of a ≤ a.from.0
      → Wrote line₀ 0 (named_line (ascii "lines ") a.lines) line n → IsPrefixLen n line → Wrote old 0 (take n line) new end → HandedAs (comparison_walk s t) (Rows a) end Done old new
  handed_last {a} stands over last shown copied =
      let gone = le-ltb a.from.0 (rows_of a) over in
      let wrote = line_copied last shown copied in
      handed_by (comparison_walk s t) free (rw gone wrote) (omega (arith, wrote.ends, last.ends, (line_fits last space shown free).0)) (rw gone) (way_on s t (Rows a) (length old) stands)

-- lines of rows
pub handed_rows : {s t old new : List ℕ} {a : At} {own its : Own} {took : Compared} → hand_max ≤ length old → Stands s t (Rows a) → a.from.0 < rows_of a
    → own ≡ own_at s a.left.column (block_of a.left.column a.from.0) → its ≡ own_at t a.right.column (block_of a.right.column a.from.0)
    → took ≡ compared_in (own_row own.column s) (own_row its.column t) (max own.column.window.rows its.column.window.rows) (length old) a.from.0
    → new ≡ sets old 0 (pair_chunk (own_row own.column s) (own_row its.column t) (max own.column.window.rows its.column.window.rows) (length old) a.from.0)
    → IsPrefixLen took.bytes new
    → HandedAs (comparison_walk s t) (Rows a) took.bytes (Rows (record { left = own; right = its; from = record { 0 = a.from.0 + took.rows }; lines = a.lines + took.lines })) old new
handed_rows {s} {t} {old} {new} {a} {own} {its} {took} free stands more one other answer list shown =
    let from = a.from.0 in
    let inside = lt-ltb from (rows_of a) more in
    let here : took ≡ compared_in (left_of a s) (right_of a t) (rows_of a) (length old) from = rw (one, other) at answer in
    let there : new ≡ sets old 0 (pair_chunk (left_of a s) (right_of a t) (rows_of a) (length old) from) = rw (one, other) at list in
    let kept : length new ≡ length old = ap length there ∙ length-sets old 0 (pair_chunk (left_of a s) (right_of a t) (rows_of a) (length old) from) in
    let wrote : Wrote old 0 (pair_chunk (left_of a s) (right_of a t) (rows_of a) (length old) from) new took.bytes =
    record { ends = ap (λ (f : Compared). f.bytes) here ∙ sym (zero-add _); list = there } in
    let next : ◌≡◌ {A = Way} (Rows (record { left = own; right = its; from = record { 0 = from + took.rows }; lines = a.lines + took.lines })) (Rows (at_next a s t (length old))) =
    λ i. Rows (record { left = one i; right = other i; from = record { 0 = from + (here i).rows }; lines = a.lines + (here i).lines }) in
    handed_by (comparison_walk s t) free (rw inside wrote) (omega (arith, shown.0)) (rw inside next) (way_on s t (Rows a) (length old) stands)

rows_few : {s t : List ℕ} (a : At) → Owned s a.left.column a.left.pass → Owned t a.right.column a.right.pass → rows_of a < 2 ^ 32
rows_few a one other = omega (arith, own_window one.shows, own_few one.shows, own_window other.shows, own_few other.shows)

-- fewer than 2^32 rows and lines, with what was taken
pub paired_few : (s t : List ℕ) (a : At) (room : ℕ) {own its : Own} {took : Compared} → hand_max ≤ room → Stands s t (Rows a) → a.from.0 < rows_of a
    → own ≡ own_at s a.left.column (block_of a.left.column a.from.0) → its ≡ own_at t a.right.column (block_of a.right.column a.from.0)
    → took ≡ compared_in (own_row own.column s) (own_row its.column t) (max own.column.window.rows its.column.window.rows) room a.from.0
    → (a.from.0 + took.rows < 2 ^ 32) × (a.lines + took.lines < 2 ^ 32)
paired_few s t a room {own} {its} {took} free stands more one other answer =
    let here : took ≡ compared_in (left_of a s) (right_of a t) (rows_of a) room a.from.0 = rw (one, other) at answer in
    let p = paired (left_of a s) (right_of a t) (rows_of a) room a.from.0 took here more (omega arith) in
    let most : rows_of a < 2 ^ 32 = rows_few a stands.0 stands.1 in
    (omega (arith, p.rows_took.most), omega (arith, p.rows_took.most, p.few, stands.3))

-- ---- all calls

-- the rows that two openings found
abbrev rows_in : (o p : Outcome Loaded) → ℕ
rows_in (value o) (value p) = max o.column.window.rows p.column.window.rows
rows_in (value o) (refusal number also) = 0
rows_in (refusal number also) p = 0

-- how many chunks a way has at most
abbrev pub left : (s t : List ℕ) → Way → ℕ
left s t Open = rows_in (opened_here s) (opened_here t) + 2
left s t (Rows a) = rows_of a - a.from.0 + 1
left s t Done = 0

-- fewer behind a chunk
opened_less : (s t : List ℕ) (o p : Outcome Loaded) → left s t (way_of (begun s t o p)) ≤ rows_in o p + 1
opened_less s t (value o) (value p) = omega arith
opened_less s t (value o) (refusal number also) = omega arith
opened_less s t (refusal number also) p = omega arith

left_less : (s t : List ℕ) (w : Way) (room : ℕ) → hand_max ≤ room → left s t (behind s t w room) ≤ left s t w - 1
left_less s t Open room free = omega (arith, opened_less s t (opened_here s) (opened_here t))
left_less s t (Rows a) room free =
    let from = a.from.0 in
    ⊎_elim
    (λ more. rw (lt-ltb from (rows_of a) more) (omega (arith, chunk_some (text_of (left_of a s) (right_of a t)) pair_max (rows_of a) room from more (omega arith))))
    (λ over. rw (le-ltb from (rows_of a) over) (omega arith))
    (below_or from (rows_of a))
left_less s t Done room free = omega arith

-- a way that has more has a chunk
more_left : (s t : List ℕ) (w : Way) → is_more w ≡ true → 0 < left s t w
more_left s t Open more = omega arith
more_left s t (Rows a) more = omega arith
more_left s t Done more = absurd (let z : ◌≡◌ {A = ℕ} 0 1 = ap (λ (b : Bool). pick b 1 0) more in omega arith)

pub handed_less : {s t old new : List ℕ} {w next : Way} {bytes : ℕ} → hand_max ≤ length old → is_more w ≡ true → HandedAs (comparison_walk s t) w bytes next old new → left s t next < left s t w
handed_less {s} {t} {old} {new} {w} {next} {bytes} free more h =
    omega (arith, ap (left s t) (handed_on (comparison_walk s t) free h), left_less s t w (length old) free, more_left s t w more)

nothing_left : (s t : List ℕ) (w : Way) → left s t w ≡ 0 → rest s t w ≡ []
nothing_left s t Open e = absurd (omega arith)
nothing_left s t (Rows a) e = absurd (omega arith)
nothing_left s t Done e = refl

abbrev goes : (s t : List ℕ) (room : ℕ) → hand_max ≤ room → Goes (comparison_walk s t) room
goes s t room free = record { free = free; on = λ w stands. way_on s t w room stands; left = left s t; less = λ w. left_less s t w room free; none = nothing_left s t }

-- a program that begins and goes from chunk to chunk is handed the comparison
pub comparison_handed : (s t : List ℕ) (room : ℕ) → hand_max ≤ room → handed_all (left s t Open) (comparison_walk s t) Open room ≡ comparison s t
comparison_handed s t room free = all_handed (goes s t room free) (left s t Open) Open tt (omega arith)

-- .. and one that goes over two columns, that of their windows' rows
pub windows_handed : (s t : List ℕ) (room : ℕ) (own its : Own) → hand_max ≤ room → Owned s own.column own.pass → Owned t its.column its.pass
    → handed_all (left s t (Rows (at_first own its))) (comparison_walk s t) (Rows (at_first own its)) room ≡ compared_through own.column its.column s t
windows_handed s t room own its free one other =
    all_handed (goes s t room free) (left s t (Rows (at_first own its))) (Rows (at_first own its)) (one, other, omega arith, omega arith) (omega arith) ∙ over_compared s t own its
