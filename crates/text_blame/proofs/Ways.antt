-- The way through a blame: what each call hands out, and that all of it is the blame.
--     way_on                                      what is left is the chunk, and then what is left behind it
--     begun_wrote, line_has_room                  the line that beginning wrote; any line has room where a longest text has
--     handed_first, handed_last, handed_bytes     a call that hands out the only line; the last line; the text of offsets
--     handed_done                                 nothing, at the end
--     looked_most                                 offsets that a chunk looked at are among those that are left
--     left, handed_less                           how many chunks a way has at most; a chunk makes it shorter
--     blame_handed                                all chunks together are the blame
-- Assumes nothing.
use Rattle.format.specs.declared.Column.{Column}
use Rattle.std.specs.Prelude.{Result}
use Prim.Native.Nat.{ℕ, ◌+◌, ◌-◌, ◌≤◌, ◌<◌}
use mathlib.Core.Path.{◌≡◌, refl, sym, ap, ◌∙◌}
use mathlib.Core.Bool.{Bool, true}
use mathlib.Core.Logic.{⊎_elim}
use mathlib.Core.List.{List, [], ◌++◌, append_assoc, append-nil}
use native.Mathlib.Nat.{zero-add}
use native.Mathlib.Omega.{arith}
use borrow.Author.Tests.{lt-ltb, le-ltb}
use lib.ListN.{length, take}
use lib.Seq.{length-sets}
use Rattle.io.specs.Counts.{IsPrefixLen}
use Rattle.format.specs.Listing.{row_texts, opened_here}
use Rattle.format.specs.Outcome.{Wrote, pick}
use Rattle.format.proofs.Lists.{below_or}
use Rattle.text.specs.Chunk.{chunk_rows, chunk}
use Rattle.text.specs.Way.{HandedAs, handed_all}
use Rattle.text.proofs.Chunks.{texts_split, chunk_most, chunk_some}
use Rattle.text.proofs.Ways.{line_copied, line_fits, Onward, handed_by, handed_on, all_handed}
use Rattle.text_blame.specs.declared.Looked.{Looked}
use Rattle.text_blame.specs.declared.way.At.{At}
use Rattle.text_blame.specs.declared.way.Way.{Way}
use Rattle.text_blame.specs.declared.way.Way.TheVariants.{Open, Bytes, Done}
use Rattle.text_blame_lines.specs.Bytes.{blame_max}
use Rattle.text_blame.specs.Beginning.{Start, Start.both, Start.only, starts, begun, line_in, line_length, BegunAs, blame}
use Rattle.text_blame.specs.Chunk.{looked_in, LookedAs, EndedAs}
use Rattle.text_blame.specs.Way.{hand_max, text_of, end_of, rest, is_more, Stands, behind, way_of, blame_walk}
use Rattle.text_blame.proofs.Beginnings.{starts_opens}

-- ---- what is left behind each chunk

-- behind the beginning: the text of all offsets and the last line, or nothing
start_on : (s t : List ℕ) (b : Start) → starts (opened_here s) (opened_here t) s t ≡ b → (blame s t ≡ line_in b ++ rest s t (way_of (begun b))) × Stands s t (way_of (begun b))
unfolding blame
start_on s t (both c d) e =
    let all : length s - 0 ≡ length s = omega arith in
    (rw (e, all), starts_opens s t c d e)
start_on s t (only l) e = (rw e (sym (append-nil l)), tt)

-- behind the text of offsets: that of the others
texts_on : (text : ℕ → List ℕ) (end : List ℕ) (bytes room from : ℕ) → from < bytes →
    let k = chunk_rows text blame_max bytes room from in
    row_texts text from (bytes - from) ++ end ≡ chunk text blame_max bytes room from ++ (row_texts text (from + k) (bytes - (from + k)) ++ end)
texts_on text end bytes room from more =
    let k = chunk_rows text blame_max bytes room from in
    let n = bytes - (from + k) in
    let split : bytes - from ≡ k + n = omega (arith, chunk_most text blame_max bytes room from) in
    ap (λ (m : ℕ). row_texts text from m ++ end) split
    ∙ ap (λ (l : List ℕ). l ++ end) (texts_split text from k n)
    ∙ append_assoc (row_texts text from k) (row_texts text (from + k) n) end

pub way_on : (s t : List ℕ) (w : Way) (room : ℕ) → Stands s t w → Onward (blame_walk s t) w room
unfolding row_texts
way_on s t Open room stands = let on = start_on s t (starts (opened_here s) (opened_here t) s t) refl in record { whole = on.0; stands = on.1 }
way_on s t (Bytes a) room stands =
    ⊎_elim
    (λ more. let there = lt-ltb a.from (length s) more in
    record { whole = rw there (texts_on (text_of a s t) (end_of a s t) (length s) room a.from more); stands = rw there stands })
    (λ over. let gone = le-ltb a.from (length s) over in
    let none : length s - a.from ≡ 0 = omega arith in
    record { whole = rw (gone, none) (sym (append-nil _)); stands = rw gone tt })
    (below_or a.from (length s))
way_on s t Done room stands = record { whole = refl; stands = tt }

-- ---- a call

-- the line that beginning wrote
only_long : (b : Start) → line_length (begun b) ≡ length (line_in b)
only_long (both c d) = refl
only_long (only l) = refl

pub begun_wrote : {b : Start} {line₀ line : List ℕ} {r : Result (Column × Column) ℕ} → BegunAs b r line₀ line → Wrote line₀ 0 (line_in b) line (line_length r)
begun_wrote {b} f = record { ends = ap line_length f.answer ∙ only_long b ∙ sym (zero-add _); list = f.line }

-- a line has room where a longest text has
pub line_has_room : {line₀ l line : List ℕ} {n room : ℕ} → Wrote line₀ 0 l line n → length line₀ ≡ 128 → IsPrefixLen n line → hand_max ≤ room → (n ≤ room) × (0 + length (take n line) ≤ room)
line_has_room {line₀} {l} {line} {n} {room} wrote space shown free = line_fits {room = room} wrote space shown (omega arith)

module _ {s t line₀ line old new : List ℕ} {end : ℕ} (space : length line₀ ≡ 128) (free : hand_max ≤ length old) where
  pub handed_first : {r : Result (Column × Column) ℕ} {w : Way} → BegunAs (starts (opened_here s) (opened_here t) s t) r line₀ line → Wrote old 0 (take (line_length r) line) new end → w ≡ way_of r
      → HandedAs (blame_walk s t) Open end w old new
  handed_first {r} {w} f copied is =
      let first = begun_wrote f in
      let wrote = line_copied first f.counts copied in
      handed_by (blame_walk s t) free wrote (omega (arith, wrote.ends, first.ends, (line_has_room first space f.counts free).0)) (is ∙ ap way_of f.answer) (way_on s t Open (length old) tt)

  -- the last line
  pub handed_last : {a : At} {n : ℕ} → Stands s t (Bytes a) → length s ≤ a.from → EndedAs a.left s t n line₀ line → Wrote old 0 (take n line) new end
      → HandedAs (blame_walk s t) (Bytes a) end Done old new
  handed_last {a} stands over last copied =
      let gone = le-ltb a.from (length s) over in
      let wrote = line_copied last.0 last.1 copied in
      handed_by (blame_walk s t) free (rw gone wrote) (omega (arith, wrote.ends, last.0.ends, (line_has_room last.0 space last.1 free).0)) (rw gone) (way_on s t (Bytes a) (length old) stands)

-- the text of offsets
pub handed_bytes : {s t old new : List ℕ} {a : At} {took : Looked} → hand_max ≤ length old → Stands s t (Bytes a) → a.from < length s
    → LookedAs a.left s a.right t a.from took old new
    → HandedAs (blame_walk s t) (Bytes a) took.bytes (Bytes (record { left = a.left; right = a.right; from = a.from + took.offsets })) old new
handed_bytes {s} {t} {old} {new} {a} {took} free stands more looked =
    let inside = lt-ltb a.from (length s) more in
    let text = chunk (text_of a s t) blame_max (length s) (length old) a.from in
    let kept : length new ≡ length old = ap length looked.1.0 ∙ length-sets old 0 text in
    let wrote : Wrote old 0 text new took.bytes = record { ends = ap (λ (l : Looked). l.bytes) looked.0 ∙ sym (zero-add _); list = looked.1.0 } in
    let next = ap (λ (l : Looked). Bytes (record { left = a.left; right = a.right; from = a.from + l.offsets })) looked.0 in
    handed_by (blame_walk s t) free (rw inside wrote) (omega (arith, looked.1.1.0)) (rw inside next) (way_on s t (Bytes a) (length old) stands)

-- nothing, at the end
pub handed_done : {s t old : List ℕ} → hand_max ≤ length old → HandedAs (blame_walk s t) Done 0 Done old old
handed_done {s} {t} {old} free = handed_by (blame_walk s t) free (record { ends = refl; list = refl }) (omega arith) refl (way_on s t Done (length old) tt)

-- offsets that a chunk looked at are among those that are left
pub looked_most : (a : At) (s t : List ℕ) (room : ℕ) (r : Looked) → r ≡ looked_in (text_of a s t) (length s) room a.from → r.offsets ≤ length s - a.from
looked_most a s t room r answer = omega (arith, ap (λ (l : Looked). l.offsets) answer, chunk_most (text_of a s t) blame_max (length s) room a.from)

-- ---- all calls

-- how many chunks a way has at most
abbrev pub left : (s t : List ℕ) → Way → ℕ
left s t Open = length s + 2
left s t (Bytes a) = length s - a.from + 1
left s t Done = 0

-- fewer behind a chunk
start_less : (s t : List ℕ) (b : Start) → left s t (way_of (begun b)) ≤ length s + 1
start_less s t (both c d) = omega arith
start_less s t (only l) = omega arith

left_less : (s t : List ℕ) (w : Way) (room : ℕ) → hand_max ≤ room → left s t (behind s t w room) ≤ left s t w - 1
left_less s t Open room free = omega (arith, start_less s t (starts (opened_here s) (opened_here t) s t))
left_less s t (Bytes a) room free =
    ⊎_elim
    (λ more. rw (lt-ltb a.from (length s) more) (omega (arith, chunk_some (text_of a s t) blame_max (length s) room a.from more free)))
    (λ over. rw (le-ltb a.from (length s) over) (omega arith))
    (below_or a.from (length s))
left_less s t Done room free = omega arith

-- a way that has more has a chunk
more_left : (s t : List ℕ) (w : Way) → is_more w ≡ true → 0 < left s t w
more_left s t Open more = omega arith
more_left s t (Bytes a) more = omega arith
more_left s t Done more = absurd (let z : ◌≡◌ {A = ℕ} 0 1 = ap (λ (b : Bool). pick b 1 0) more in omega arith)

pub handed_less : {s t old new : List ℕ} {w next : Way} {bytes : ℕ} → hand_max ≤ length old → is_more w ≡ true → HandedAs (blame_walk s t) w bytes next old new → left s t next < left s t w
handed_less {s} {t} {old} {new} {w} {next} {bytes} free more h =
    omega (arith, ap (left s t) (handed_on (blame_walk s t) free h), left_less s t w (length old) free, more_left s t w more)

nothing_left : (s t : List ℕ) (w : Way) → left s t w ≡ 0 → rest s t w ≡ []
nothing_left s t Open e = absurd (omega arith)
nothing_left s t (Bytes a) e = absurd (omega arith)
nothing_left s t Done e = refl

-- a program that begins and goes from chunk to chunk is handed the blame
pub blame_handed : (s t : List ℕ) (room : ℕ) → hand_max ≤ room → handed_all (left s t Open) (blame_walk s t) Open room ≡ blame s t
blame_handed s t room free =
    all_handed (record { free = free; on = λ w stands. way_on s t w room stands; left = left s t; less = λ w. left_less s t w room free; none = nothing_left s t }) (left s t Open) Open tt (omega arith)
