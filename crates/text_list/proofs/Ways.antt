-- The way through a listing: what each call hands out, and that all of it is the listing.
--     way_on                                      what is left is the chunk, and then what is left behind it
--     begun_wrote                                 the line that beginning wrote
--     handed_first, handed_last, handed_rows      a call that hands out the first line; the last line; lines of rows
--     took_few                                    no more rows than are left
--     left, handed_less                           how many chunks a way has at most; a chunk makes it shorter
--     listing_handed                              all chunks together are the listing
-- Assumes nothing.
use Rattle.std.specs.Prelude.{Result}
use Prim.Native.Nat.{ℕ, ◌+◌, ◌-◌, ◌≤◌, ◌<◌}
use mathlib.Core.Path.{◌≡◌, refl, sym, ap, ◌∙◌, subst}
use mathlib.Core.Bool.{Bool, true}
use mathlib.Core.Logic.{⊎_elim}
use mathlib.Core.List.{List, [], ◌++◌, append_assoc, append-nil}
use native.Mathlib.Nat.{zero-add}
use native.Mathlib.Omega.{arith}
use borrow.Author.Tests.{lt-ltb, le-ltb}
use lib.ListN.{length, take}
use lib.Seq.{sets, length-sets}
use Rattle.io.specs.Counts.{IsPrefixLen}
use Rattle.format.specs.declared.Column.{Column}
use Rattle.format.specs.declared.WindowRow.{WindowRow}
use Rattle.format.specs.Listing.{ascii, named_line, row_line, row_lines, row_texts, opened_here, listed, listing}
use Rattle.format.specs.Opening.{Loaded}
use Rattle.format.specs.Outcome.{Outcome, Outcome.value, Outcome.refusal, Wrote, pick}
use Rattle.format.proofs.Lists.{below_or}
use Rattle.text.specs.declared.Filled.{Filled}
use Rattle.text.specs.Chunk.{chunk_rows, chunk, filled}
use Rattle.text.specs.Way.{HandedAs, handed_all}
use Rattle.text.proofs.Chunks.{texts_split, chunk_most, chunk_some}
use Rattle.text.proofs.Ways.{line_copied, line_fits, Onward, handed_by, handed_on, all_handed}
use Rattle.text_column.specs.declared.own.Own.{Own}
use Rattle.text_column.specs.Own.{own_row, own_at, block_of}
use Rattle.text_column.proofs.Owns.{owned_first, owned_at}
use Rattle.text_column.proofs.Rows.{own_reads, opens_shows}
use Rattle.text_list.specs.declared.way.Way.{Way}
use Rattle.text_list.specs.declared.way.Way.TheVariants.{Open, Rows, Done}
use Rattle.text_list.specs.Beginning.{column_line, first_line, begun, line_length, BegunAs}
use Rattle.text_list.specs.Chunk.{line_max}
use Rattle.text_list.specs.Way.{hand_max, rest, is_more, Stands, behind, way_of, listing_walk}

-- ---- what is left behind each chunk

-- behind the first line: the rows and the last line, or nothing
opened_on : (s : List ℕ) (o : Outcome Loaded) → opened_here s ≡ o → (listing s ≡ first_line o ++ rest s (way_of (begun s o))) × Stands s (way_of (begun s o))
unfolding listing listed column_line
opened_on s (value o) e =
    let col = o.column in
    let all : col.rows - 0 ≡ col.rows = omega arith in (
      rw e (rw all (ap (λ (read : ℕ → Outcome ℕ). column_line col ++ (row_lines read 0 col.rows ++ named_line (ascii "end ") col.rows)) (sym (own_reads s o e col)))),
      (owned_first (opens_shows (record { found = o; opened = e; column = refl })), omega arith),
    )
opened_on s (refusal number also) e = (rw e (sym (append-nil _)), tt)

-- behind lines of rows: those of the others
lines_on : (read : ℕ → Outcome ℕ) (rows room r : ℕ) (end : List ℕ) → r < rows →
    let k = chunk_rows (row_line read) line_max rows room r in
    row_lines read r (rows - r) ++ end ≡ chunk (row_line read) line_max rows room r ++ (row_lines read (r + k) (rows - (r + k)) ++ end)
lines_on read rows room r end more =
    let k = chunk_rows (row_line read) line_max rows room r in
    let split : rows - r ≡ k + (rows - (r + k)) = omega (arith, chunk_most (row_line read) line_max rows room r) in
    ap (λ (n : ℕ). row_lines read r n ++ end) split
    ∙ ap (λ (l : List ℕ). l ++ end) (texts_split (row_line read) r k (rows - (r + k)))
    ∙ append_assoc (row_lines read r k) (row_lines read (r + k) (rows - (r + k))) end

pub way_on : (s : List ℕ) (w : Way) (room : ℕ) → Stands s w → Onward (listing_walk s) w room
unfolding row_texts
way_on s Open room stands = let on = opened_on s (opened_here s) refl in record { whole = on.0; stands = on.1 }
way_on s (Rows own from) room stands =
    let rows = own.column.rows in
    ⊎_elim
    (λ more. let there = lt-ltb from.0 rows more in
    record {
      whole = rw there (lines_on (own_row own.column s) rows room from.0 (named_line (ascii "end ") rows) more);
      stands = rw there (owned_at stands.0.shows _, omega (arith, chunk_most (row_line (own_row own.column s)) line_max rows room from.0));
    })
    (λ over. let gone = le-ltb from.0 rows over in
    let none : rows - from.0 ≡ 0 = omega arith in
    record { whole = rw (gone, none) (sym (append-nil _)); stands = rw gone tt })
    (below_or from.0 rows)
way_on s Done room stands = record { whole = refl; stands = tt }

-- ---- a call

-- the line that beginning wrote
first_long : (s : List ℕ) (o : Outcome Loaded) → line_length (begun s o) ≡ length (first_line o)
first_long s (value o) = refl
first_long s (refusal number also) = refl

pub begun_wrote : {s line₀ line : List ℕ} {r : Result (Own × ℕ) (ℕ × ℕ)} → BegunAs s (opened_here s) r line₀ line → Wrote line₀ 0 (first_line (opened_here s)) line (line_length r)
begun_wrote {s} f = record { ends = ap line_length f.answer ∙ first_long s (opened_here s) ∙ sym (zero-add _); list = f.line }

module _ {s line₀ line old new : List ℕ} {end : ℕ} (space : length line₀ ≡ 128) (free : hand_max ≤ length old) where
  pub handed_first : {r : Result (Own × ℕ) (ℕ × ℕ)} {w : Way} → BegunAs s (opened_here s) r line₀ line → Wrote old 0 (take (line_length r) line) new end → w ≡ way_of r
      → HandedAs (listing_walk s) Open end w old new
  handed_first {r} {w} f copied is =
      let first = begun_wrote f in
      let wrote = line_copied first f.counts copied in
      handed_by (listing_walk s) free wrote (omega (arith, wrote.ends, first.ends, (line_fits first space f.counts free).0)) (is ∙ ap way_of f.answer) (way_on s Open (length old) tt)

  -- the last line
  pub handed_last : {own : Own} {from : WindowRow} {n : ℕ} → Stands s (Rows own from) → own.column.rows ≤ from.0
      → Wrote line₀ 0 (named_line (ascii "end ") own.column.rows) line n → IsPrefixLen n line → Wrote old 0 (take n line) new end → HandedAs (listing_walk s) (Rows own from) end Done old new
  handed_last {own} {from} stands over last shown copied =
      let gone = le-ltb from.0 own.column.rows over in
      let wrote = line_copied last shown copied in
      handed_by (listing_walk s) free (rw gone wrote) (omega (arith, wrote.ends, last.ends, (line_fits last space shown free).0)) (rw gone) (way_on s (Rows own from) (length old) stands)

-- lines of rows
pub handed_rows : {s old new : List ℕ} {own at : Own} {from : WindowRow} {took : Filled} → hand_max ≤ length old → Stands s (Rows own from) → from.0 < own.column.rows
    → at ≡ own_at s own.column (block_of own.column from.0)
    → took ≡ filled (row_line (own_row at.column s)) line_max at.column.rows (length old) from.0
    → new ≡ sets old 0 (chunk (row_line (own_row at.column s)) line_max at.column.rows (length old) from.0) → IsPrefixLen took.bytes new
    → HandedAs (listing_walk s) (Rows own from) took.bytes (Rows at (record { 0 = from.0 + took.rows })) old new
handed_rows {s} {old} {new} {own} {at} {from} {took} free stands more reached answer list shown =
    let col = own.column in
    let same : at.column ≡ col = ap (λ (o : Own). o.column) reached in
    let text = row_line (own_row col s) in
    let here : took ≡ filled text line_max col.rows (length old) from.0 = subst (λ (d : Column). took ≡ filled (row_line (own_row d s)) line_max d.rows (length old) from.0) same answer in
    let there : new ≡ sets old 0 (chunk text line_max col.rows (length old) from.0) =
    subst (λ (d : Column). new ≡ sets old 0 (chunk (row_line (own_row d s)) line_max d.rows (length old) from.0)) same list in
    let kept : length new ≡ length old = ap length there ∙ length-sets old 0 (chunk text line_max col.rows (length old) from.0) in
    let counted : took.rows ≡ chunk_rows text line_max col.rows (length old) from.0 = ap (λ (f : Filled). f.rows) here in
    let inside = lt-ltb from.0 col.rows more in
    let wrote : Wrote old 0 (chunk text line_max col.rows (length old) from.0) new took.bytes =
    record { ends = ap (λ (f : Filled). f.bytes) here ∙ sym (zero-add _); list = there } in
    let next : ◌≡◌ {A = Way} (Rows at (record { 0 = from.0 + took.rows })) (Rows (own_at s col (block_of col from.0)) (record { 0 = from.0 + chunk_rows text line_max col.rows (length old) from.0 })) =
    λ i. Rows (reached i) (record { 0 = from.0 + counted i }) in
    handed_by (listing_walk s) free (rw inside wrote) (omega (arith, shown.0)) (rw inside next) (way_on s (Rows own from) (length old) stands)

-- no more rows than are left
pub took_few : (s : List ℕ) (own : Own) {at : Own} (k room : ℕ) {from : ℕ} {took : Filled} → at ≡ own_at s own.column k
    → took ≡ filled (row_line (own_row at.column s)) line_max at.column.rows room from → from < own.column.rows → from + took.rows ≤ own.column.rows
took_few s own {at} k room {from} {took} reached answer more =
    let same : at.column.rows ≡ own.column.rows = ap (λ (o : Own). o.column.rows) reached in
    omega (arith, same, ap (λ (f : Filled). f.rows) answer, chunk_most (row_line (own_row at.column s)) line_max at.column.rows room from)

-- ---- all calls

-- the rows that opening found
abbrev rows_in : Outcome Loaded → ℕ
rows_in (value o) = o.column.rows
rows_in (refusal number also) = 0

-- how many chunks a way has at most
abbrev pub left : (s : List ℕ) → Way → ℕ
left s Open = rows_in (opened_here s) + 2
left s (Rows own from) = own.column.rows - from.0 + 1
left s Done = 0

-- fewer behind a chunk
opened_less : (s : List ℕ) (o : Outcome Loaded) → left s (way_of (begun s o)) ≤ rows_in o + 1
opened_less s (value o) = omega arith
opened_less s (refusal number also) = omega arith

left_less : (s : List ℕ) (w : Way) (room : ℕ) → hand_max ≤ room → left s (behind s w room) ≤ left s w - 1
left_less s Open room free = omega (arith, opened_less s (opened_here s))
left_less s (Rows own from) room free =
    let rows = own.column.rows in
    ⊎_elim
    (λ more. rw (lt-ltb from.0 rows more) (omega (arith, chunk_some (row_line (own_row own.column s)) line_max rows room from.0 more (omega arith))))
    (λ over. rw (le-ltb from.0 rows over) (omega arith))
    (below_or from.0 rows)
left_less s Done room free = omega arith

-- a way that has more has a chunk
more_left : (s : List ℕ) (w : Way) → is_more w ≡ true → 0 < left s w
more_left s Open more = omega arith
more_left s (Rows own from) more = omega arith
more_left s Done more = absurd (let z : ◌≡◌ {A = ℕ} 0 1 = ap (λ (b : Bool). pick b 1 0) more in omega arith)

pub handed_less : {s old new : List ℕ} {w next : Way} {bytes : ℕ} → hand_max ≤ length old → is_more w ≡ true → HandedAs (listing_walk s) w bytes next old new → left s next < left s w
handed_less {s} {old} {new} {w} {next} {bytes} free more h =
    omega (arith, ap (left s) (handed_on (listing_walk s) free h), left_less s w (length old) free, more_left s w more)

-- a program that begins and goes from chunk to chunk is handed the listing
pub listing_handed : (s : List ℕ) (room : ℕ) → hand_max ≤ room → handed_all (left s Open) (listing_walk s) Open room ≡ listing s
listing_handed s room free =
    all_handed (record { free = free; on = λ w stands. way_on s w room stands; left = left s; less = λ w. left_less s w room free; none = nothing }) (left s Open) Open tt (omega arith)
  where
    nothing : (w : Way) → left s w ≡ 0 → rest s w ≡ []
    nothing Open e = absurd (omega arith)
    nothing (Rows own from) e = absurd (omega arith)
    nothing Done e = refl
