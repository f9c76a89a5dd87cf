-- The way through an explanation: what each call hands out, and that all of it is the explanation.
--     way_on                        what is left is the chunk, and then what is left behind it
--     begun_wrote                   the line that beginning wrote
--     handed_first, handed_parts    a call that hands out the line of a refusal; lines of parts
--     way_ends, way_goes            the way behind no part; behind some
--     handed_done                   nothing, at the end
--     taken                         parts that a chunk took are among those that are left
--     left, handed_less             how many chunks a way has at most; a chunk makes it shorter
--     explanation_handed            all chunks together are the explanation
-- Assumes nothing.
use Rattle.std.specs.Prelude.{Result}
use Prim.Native.Nat.{ℕ, ◌+◌, ◌-◌, ◌≤◌, ◌<◌}
use mathlib.Core.Path.{◌≡◌, refl, sym, ap, ◌∙◌}
use mathlib.Core.Bool.{Bool, true}
use mathlib.Core.Logic.{⊎_elim}
use mathlib.Core.List.{List, [], ◌++◌, append-nil}
use native.Mathlib.Nat.{zero-add}
use native.Mathlib.Omega.{arith}
use borrow.Author.Tests.{ne_eqb}
use lib.ListN.{length, take}
use lib.Seq.{sets, length-sets}
use Rattle.io.specs.Counts.{IsPrefixLen}
use Rattle.format.specs.declared.Column.{Column}
use Rattle.format.specs.Listing.{row_texts, opened_here}
use Rattle.format.specs.Opening.{Loaded}
use Rattle.format.specs.Outcome.{Outcome, Outcome.value, Outcome.refusal, Wrote, pick}
use Rattle.format.specs.Parts.{parts_of}
use Rattle.format.proofs.Lists.{below_or}
use Rattle.text.specs.Chunk.{chunk_rows, chunk}
use Rattle.text.specs.Way.{HandedAs, handed_all}
use Rattle.text.proofs.Chunks.{texts_split, chunk_most, chunk_some}
use Rattle.text.proofs.Ways.{line_copied, line_fits, Onward, handed_by, handed_on, all_handed}
use Rattle.text_explain.specs.declared.Told.{Told}
use Rattle.text_explain.specs.declared.way.Way.{Way}
use Rattle.text_explain.specs.declared.way.Way.TheVariants.{Open, Parts, Done}
use Rattle.text_explain.specs.Chunk.{only_line, begun, line_length, BegunAs, told_in}
use Rattle.text_explain.specs.Explained.{part_max, text_at, explanation}
use Rattle.text_explain.specs.Way.{hand_max, rest, is_more, behind, way_of, way_next, explanation_walk}

-- ---- what is left behind each chunk

-- behind the beginning: the parts, or nothing
opened_on : (s : List ℕ) (o : Outcome Loaded) → opened_here s ≡ o → explanation s ≡ only_line o ++ rest s (way_of (begun o))
unfolding explanation
opened_on s (value o) e =
    let all : length (parts_of s o.column) - 0 ≡ length (parts_of s o.column) = omega arith in
    rw (e, all)
opened_on s (refusal number also) e = rw e (sym (append-nil _))

module _ (s : List ℕ) (c : Column) (from room : ℕ) where
  abbrev parts : ℕ
  parts = length (parts_of s c)

  abbrev here : ℕ
  here = chunk_rows (text_at s c) part_max parts room from

  -- behind some parts those that are left, behind none nothing
  parts_on : hand_max ≤ room → rest s (Parts c from) ≡ chunk (text_at s c) part_max parts room from ++ rest s (way_next c from here)
  unfolding row_texts
  parts_on free =
      ⊎_elim
      (λ (some : 0 < here). let split : parts - from ≡ here + (parts - (from + here)) = omega (arith, chunk_most (text_at s c) part_max parts room from) in
      rw (ne_eqb here 0 (λ e. omega arith)) (ap (row_texts (text_at s c) from) split ∙ texts_split (text_at s c) from here (parts - (from + here))))
      (λ (no : here ≤ 0). let none : here ≡ 0 = omega arith in
      let gone : parts - from ≡ 0 = ⊎_elim (λ more. absurd (omega (arith, chunk_some (text_at s c) part_max parts room from more (omega arith)))) (λ over. omega arith) (below_or from parts) in
      rw (none, gone))
      (below_or 0 here)

pub way_on : (s : List ℕ) (w : Way) (room : ℕ) → hand_max ≤ room → Onward (explanation_walk s) w room
way_on s Open room free = record { whole = opened_on s (opened_here s) refl; stands = tt }
way_on s (Parts c from) room free = record { whole = parts_on s c from room free; stands = tt }
way_on s Done room free = record { whole = refl; stands = tt }

-- ---- a call

-- the line that beginning wrote
only_long : (o : Outcome Loaded) → line_length (begun o) ≡ length (only_line o)
only_long (value o) = refl
only_long (refusal number also) = refl

pub begun_wrote : (s : List ℕ) {line₀ line : List ℕ} {r : Result Column ℕ} → BegunAs (opened_here s) r line₀ line → Wrote line₀ 0 (only_line (opened_here s)) line (line_length r)
begun_wrote s f = record { ends = ap line_length f.answer ∙ only_long (opened_here s) ∙ sym (zero-add _); list = f.line }

pub handed_first : (s : List ℕ) {line₀ line old new : List ℕ} {end : ℕ} {r : Result Column ℕ} {w : Way} → length line₀ ≡ 128 → hand_max ≤ length old
    → BegunAs (opened_here s) r line₀ line → Wrote old 0 (take (line_length r) line) new end → w ≡ way_of r → HandedAs (explanation_walk s) Open end w old new
handed_first s {line₀} {line} {old} space free f copied is =
    let first = begun_wrote s f in
    let wrote = line_copied first f.counts copied in
    handed_by (explanation_walk s) free wrote (omega (arith, wrote.ends, first.ends, (line_fits first space f.counts free).0)) (is ∙ ap way_of f.answer) (way_on s Open (length old) free)

-- the way behind what was told
module _ (s : List ℕ) (c : Column) (from room : ℕ) {told : Told} (answer : told ≡ told_in s c room from) where
  pub way_ends : told.parts ≡ 0 → Done ≡ behind s (Parts c from) room
  way_ends none = ap (way_next c from) (sym none ∙ ap (λ (t : Told). t.parts) answer)

  pub way_goes : (told.parts ≡ 0 → ⊥) → Parts c (from + told.parts) ≡ behind s (Parts c from) room
  way_goes some =
      let is : way_next c from told.parts ≡ Parts c (from + told.parts) = rw (ne_eqb told.parts 0 some) in
      sym is ∙ ap (λ (t : Told). way_next c from t.parts) answer

-- lines of parts
pub handed_parts : (s : List ℕ) {old new : List ℕ} {c : Column} {from : ℕ} {told : Told} {next : Way} → hand_max ≤ length old → told ≡ told_in s c (length old) from
    → new ≡ sets old 0 (chunk (text_at s c) part_max (length (parts_of s c)) (length old) from) → IsPrefixLen told.bytes new → next ≡ behind s (Parts c from) (length old)
    → HandedAs (explanation_walk s) (Parts c from) told.bytes next old new
handed_parts s {old} {new} {c} {from} {told} free answer list shown is =
    let text = chunk (text_at s c) part_max (length (parts_of s c)) (length old) from in
    let kept : length new ≡ length old = ap length list ∙ length-sets old 0 text in
    handed_by (explanation_walk s) free (record { ends = ap (λ (t : Told). t.bytes) answer ∙ sym (zero-add _); list = list }) (omega (arith, shown.0)) is (way_on s (Parts c from) (length old) free)

-- nothing, at the end
pub handed_done : (s : List ℕ) {old : List ℕ} → hand_max ≤ length old → HandedAs (explanation_walk s) Done 0 Done old old
handed_done s {old} free = handed_by (explanation_walk s) free (record { ends = refl; list = refl }) (omega arith) refl (way_on s Done (length old) free)

-- parts that a chunk took are among those that are left
pub taken : (s : List ℕ) (c : Column) (room from : ℕ) (r : Told) → r ≡ told_in s c room from → (r.parts ≡ 0 → ⊥) → from + r.parts ≤ length (parts_of s c)
taken s c room from r answer some =
    let parts = ap (λ (t : Told). t.parts) answer in
    let one : 0 < r.parts = ⊎_elim (λ (h : 0 < r.parts). h) (λ h. absurd (some (omega arith))) (below_or 0 r.parts) in
    omega (arith, chunk_most (text_at s c) part_max (length (parts_of s c)) room from)

-- ---- all calls

-- the parts that opening found
abbrev parts_in : Outcome Loaded → (s : List ℕ) → ℕ
parts_in (value o) s = length (parts_of s o.column)
parts_in (refusal number also) s = 0

-- how many chunks a way has at most
abbrev pub left : (s : List ℕ) → Way → ℕ
left s Open = parts_in (opened_here s) s + 2
left s (Parts c from) = length (parts_of s c) - from + 1
left s Done = 0

-- fewer behind a chunk
opened_less : (s : List ℕ) (o : Outcome Loaded) → left s (way_of (begun o)) ≤ parts_in o s + 1
opened_less s (value o) = omega arith
opened_less s (refusal number also) = omega arith

next_less : (s : List ℕ) (c : Column) (from taken : ℕ) → taken ≤ length (parts_of s c) - from → left s (way_next c from taken) ≤ length (parts_of s c) - from
next_less s c from taken most =
    ⊎_elim
    (λ (some : 0 < taken). rw (ne_eqb taken 0 (λ e. omega arith)) (omega arith))
    (λ (no : taken ≤ 0). let none : taken ≡ 0 = omega arith in rw none (omega arith))
    (below_or 0 taken)

left_less : (s : List ℕ) (w : Way) (room : ℕ) → left s (behind s w room) ≤ left s w - 1
left_less s Open room = omega (arith, opened_less s (opened_here s))
left_less s (Parts c from) room = omega (arith, next_less s c from _ (chunk_most (text_at s c) part_max (length (parts_of s c)) room from))
left_less s Done room = omega arith

-- a way that has more has a chunk
more_left : (s : List ℕ) (w : Way) → is_more w ≡ true → 0 < left s w
more_left s Open more = omega arith
more_left s (Parts c from) more = omega arith
more_left s Done more = absurd (let z : ◌≡◌ {A = ℕ} 0 1 = ap (λ (b : Bool). pick b 1 0) more in omega arith)

pub handed_less : (s : List ℕ) {old new : List ℕ} {w next : Way} {bytes : ℕ} → hand_max ≤ length old → is_more w ≡ true → HandedAs (explanation_walk s) w bytes next old new → left s next < left s w
handed_less s {old} {new} {w} {next} {bytes} free more h =
    omega (arith, ap (left s) (handed_on (explanation_walk s) free h), left_less s w (length old), more_left s w more)

nothing_left : (s : List ℕ) (w : Way) → left s w ≡ 0 → rest s w ≡ []
nothing_left s Open e = absurd (omega arith)
nothing_left s (Parts c from) e = absurd (omega arith)
nothing_left s Done e = refl

-- a program that begins and goes from chunk to chunk is handed the explanation
pub explanation_handed : (s : List ℕ) (room : ℕ) → hand_max ≤ room → handed_all (left s Open) (explanation_walk s) Open room ≡ explanation s
explanation_handed s room free =
    all_handed (record { free = free; on = λ w stands. way_on s w room free; left = left s; less = λ w. left_less s w room; none = nothing_left s }) (left s Open) Open tt (omega arith)
