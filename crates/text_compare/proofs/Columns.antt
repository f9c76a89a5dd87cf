-- What a comparison of two opened columns says, each seen through its window.
--     lacks_left, lacks_right                        a row of one side only has a line
--     equal_windows, equal_columns                   `lines 0` exactly for as many rows with equal answers
--     shown_row, shown_row_lem, windows_compared          comparing windows is comparing those rows of the columns, numbered from the windows' starts
--     comparison-through, comparison_self            two columns as they were opened; a column compared with itself
--     comparison-chunks                              chunk after chunk, and the last line
-- Assumes nothing.
use Prim.Native.Nat.{ℕ, ◌+◌, ◌/◌, ◌≤◌, ◌<◌, max}
use mathlib.Core.Path.{◌≡◌, refl, sym, ap, ◌∙◌}
use mathlib.Core.Bool.{Bool, true, false}
use mathlib.Core.Logic.{◌↔◌, inl, inr, ⊎_elim}
use mathlib.Core.List.{List, [], ◌++◌}
use native.Mathlib.Omega.{arith}
use borrow.Author.Tests.{eqb-true, lt-ltb, le-ltb, le-leb}
use lib.Dec.{ltb}
use Rattle.format.specs.declared.Column.{Column}
use Rattle.format.specs.declared.Window.{Window}
use Rattle.format.specs.Outcome.{Outcome, Outcome.value, Outcome.refusal, pick}
use Rattle.format.specs.Opening.{Loaded}
use Rattle.format.specs.Reading.{column_row, block_at, packed_of, row_at}
use Rattle.format.specs.Windows.{in_window}
use Rattle.format.specs.Listing.{ascii, named_line, opened_here}
use Rattle.format.specs.Comparing.{equal_answers, compared, comparison}
use Rattle.format.proofs.Laid.{opened-whole}
use Rattle.format.proofs.Lists.{below_or}
use Rattle.format.proofs.Rows.{row_answers, ValueOr14, value_or_14}
use Rattle.format.proofs.Windows.{wholly}
use Rattle.format.proofs.WindowRuns.{counted_from, window_answer}
use Rattle.text.specs.Chunk.{chunks}
use Rattle.text_column.specs.Own.{table_of, own_row, Shows}
use Rattle.text_column.proofs.Limits.{here_opened}
use Rattle.text_column.proofs.Owns.{own_window}
use Rattle.text_column.proofs.Rows.{here_rows, own_reads, own_lacking, opens_shows, by_shown, shows_laid}
use Rattle.text_compare.specs.Chunk.{pair_max, text_of, line_counts}
use Rattle.text_compare.specs.Through.{compared_through}
use Rattle.text_compare.proofs.Comparisons.{equal_self, nothing_differs, chunks-compared, compared_self}

-- ---- one column

-- a row of the window has a value, or is refused 14
own : {s : List ℕ} {c : Column} (e : Shows s c) (r : ℕ) → r < c.window.rows → ValueOr14 r (own_row c s r)
own {s} {c} e r =
    let col = (in_window e.found c.window).column in
    let q = column_row col r in
    let b = block_at e.found.table (q / 512) in
    by_shown e (λ (c : Column). r < c.window.rows → ValueOr14 r (own_row c s r))
    (λ h. rw (e.opened, row_answers (shows_laid e) s (omega arith) r h) (value_or_14 col.codec col b r q (packed_of col b s q)))

-- ---- two answers

same_own : (r : ℕ) (a b : Outcome ℕ) → ValueOr14 r a → ValueOr14 r b → equal_answers a b ≡ true → a ≡ b
same_own r a b (inl v) (inl w) e =
    let same : v.0 ≡ w.0 = eqb-true v.0 w.0 (rw (v.1, w.1) at e) in
    v.1 ∙ ap value same ∙ sym w.1
same_own r a b (inl v) (inr w) e = absurd (let z : false ≡ true = rw (v.1, w) at e in let y : ◌≡◌ {A = ℕ} 0 1 = cc in omega arith)
same_own r a b (inr v) (inl w) e = absurd (let z : false ≡ true = rw (v, w.1) at e in let y : ◌≡◌ {A = ℕ} 0 1 = cc in omega arith)
same_own r a b (inr v) (inr w) e = v ∙ sym w

-- an answer of a row that is there is no 12
no_absent : (r : ℕ) (b : Outcome ℕ) → ValueOr14 r b → (equal_answers (refusal 12 []) b ≡ false) × (equal_answers b (refusal 12 []) ≡ false)
no_absent r b (inl w) = rw w.1 (refl, refl)
no_absent r b (inr w) = rw w (refl, refl)

-- ---- seen through their windows

module _ {s t : List ℕ} {c d : Column} (e : Shows s c) (f : Shows t d) where
  -- the rows of either window
  abbrev rows : ℕ
  rows = max c.window.rows d.window.rows

  -- a row of one side only has a line
  pub lacks_left : (x : ℕ) → c.window.rows ≤ x → x < d.window.rows → equal_answers (own_row c s x) (own_row d t x) ≡ false
  lacks_left x over inside = rw (own_lacking c s x over) (no_absent x (own_row d t x) (own f x inside)).0

  pub lacks_right : (x : ℕ) → x < c.window.rows → d.window.rows ≤ x → equal_answers (own_row c s x) (own_row d t x) ≡ false
  lacks_right x inside over = rw (own_lacking d t x over) (no_absent x (own_row c s x) (own e x inside)).1

  -- nothing is said exactly of two windows of as many rows, with equal answers
  pub equal_windows : (compared_through c d s t ≡ named_line (ascii "lines ") 0)
      ↔ ((c.window.rows ≡ d.window.rows) × ((x : ℕ) → x < c.window.rows → own_row c s x ≡ own_row d t x))
  equal_windows = (there, back)
    where
      there : compared_through c d s t ≡ named_line (ascii "lines ") 0 → (c.window.rows ≡ d.window.rows) × ((x : ℕ) → x < c.window.rows → own_row c s x ≡ own_row d t x)
      there none = (as_many, λ x h. same_own x (own_row c s x) (own_row d t x) (own e x h) (own f x (omega (arith, as_many))) (equal x (omega (arith, as_many))))
        where
          equal : (x : ℕ) → x < rows → equal_answers (own_row c s x) (own_row d t x) ≡ true
          equal = (nothing_differs (own_row c s) (own_row d t) rows).0 none

          clash : {b : Bool} → b ≡ true → b ≡ false → ⊥
          clash {b} is not = let z : ◌≡◌ {A = ℕ} 0 1 = cc in omega arith

          as_many : c.window.rows ≡ d.window.rows
          as_many =
              ⊎_elim
              (λ fewer. absurd (clash (equal c.window.rows (omega arith)) (lacks_left c.window.rows (omega arith) fewer)))
              (λ least. ⊎_elim
              (λ more. absurd (clash (equal d.window.rows (omega arith)) (lacks_right d.window.rows more (omega arith))))
              (λ most. omega arith)
              (below_or d.window.rows c.window.rows))
              (below_or c.window.rows d.window.rows)

      back : (c.window.rows ≡ d.window.rows) × ((x : ℕ) → x < c.window.rows → own_row c s x ≡ own_row d t x) → compared_through c d s t ≡ named_line (ascii "lines ") 0
      back h = (nothing_differs (own_row c s) (own_row d t) rows).1 (λ x inside. rw (← h.1 x (omega (arith, h.0))) (equal_self (own_row c s x)))

-- ---- rows of the columns

-- row r of a window, out of a reading of the whole column: row first + r there, with the row that 14 names counted from the window's start; past the window's rows there is none
abbrev pub shown_row : (all : ℕ → Outcome ℕ) → Window → (r : ℕ) → Outcome ℕ
shown_row all w r = pick (ltb r w.rows) (counted_from w.first (all (w.first + r))) (refusal 12 [])

-- a window's rows are those of the column that was opened
pub shown_row_lem : {s : List ℕ} {c : Column} (e : Shows s c) (r : ℕ) → own_row c s r ≡ shown_row (own_row e.found.column s) c.window r
shown_row_lem {s} {c} e r = ⊎_elim there (λ over. rw (le-ltb r c.window.rows over) (own_lacking c s r over)) (below_or r c.window.rows)
  where
    -- seen as a whole it is what opening found
    whole : wholly c ≡ e.found.column
    whole = ap wholly (sym e.column) ∙ ap (λ (l : Loaded). l.column) (opened-whole s 2048 e.found (here_opened s e.found e.opened))

    there : r < c.window.rows → own_row c s r ≡ shown_row (own_row e.found.column s) c.window r
    there h =
        rw (lt-ltb r c.window.rows h)
        (window_answer c (table_of (opened_here s)) s r (le-leb (c.window.first + c.window.rows) c.rows (own_window e)) h
        ∙ ap (λ (k : Column). counted_from c.window.first (own_row k s (column_row c r))) whole)

-- so comparing windows is comparing those rows of the columns, numbered from the windows' starts
pub windows_compared : {s t : List ℕ} {c d : Column} (e : Shows s c) (f : Shows t d)
    → compared_through c d s t
    ≡ compared (shown_row (own_row e.found.column s) c.window) (shown_row (own_row f.found.column t) d.window) (max c.window.rows d.window.rows)
windows_compared {s} {t} {c} {d} e f = λ i. compared (λ r. shown_row_lem e r i) (λ r. shown_row_lem f r i) (max c.window.rows d.window.rows)

-- ---- as they were opened

module _ (s t : List ℕ) (o p : Loaded) (e : opened_here s ≡ value o) (f : opened_here t ≡ value p) where
  -- each is seen through the window of all its rows
  left_shows : Shows s o.column
  left_shows = opens_shows (record { found = o; opened = e; column = refl })

  right_shows : Shows t p.column
  right_shows = opens_shows (record { found = p; opened = f; column = refl })

  -- the comparison is that of these windows
  pub comparison-through : comparison s t ≡ compared_through o.column p.column s t
  unfolding comparison
  comparison-through =
      let n = max o.column.window.rows p.column.window.rows in
      rw (e, f)
      (ap (λ (g : ℕ → Outcome ℕ). compared g (row_at p.column p.table t) n) (sym (own_reads s o e o.column))
      ∙ ap (λ (g : ℕ → Outcome ℕ). compared (own_row o.column s) g n) (sym (own_reads t p f p.column)))

  -- chunk after chunk, and the last line with the sum of their lines
  pub comparison-chunks : (room : ℕ) → pair_max ≤ room →
      let n = max o.column.window.rows p.column.window.rows in
      chunks n (text_of (own_row o.column s) (own_row p.column t)) pair_max n room 0
      ++ named_line (ascii "lines ") (line_counts n (own_row o.column s) (own_row p.column t) n room 0)
      ≡ comparison s t
  comparison-chunks room free =
      chunks-compared (own_row o.column s) (own_row p.column t) (max o.column.window.rows p.column.window.rows) room free ∙ sym comparison-through

  -- nothing is said exactly of two columns of as many rows, with equal answers
  pub equal_columns : (comparison s t ≡ named_line (ascii "lines ") 0)
      ↔ ((o.column.rows ≡ p.column.rows) × ((x : ℕ) → x < o.column.rows → row_at o.column o.table s x ≡ row_at p.column p.table t x))
  equal_columns = (there, back)
    where
      left : (x : ℕ) → own_row o.column s x ≡ row_at o.column o.table s x
      left x = ap (λ (g : ℕ → Outcome ℕ). g x) (own_reads s o e o.column)

      right : (x : ℕ) → own_row p.column t x ≡ row_at p.column p.table t x
      right x = ap (λ (g : ℕ → Outcome ℕ). g x) (own_reads t p f p.column)

      there : comparison s t ≡ named_line (ascii "lines ") 0
          → (o.column.rows ≡ p.column.rows) × ((x : ℕ) → x < o.column.rows → row_at o.column o.table s x ≡ row_at p.column p.table t x)
      there none =
          let h = (equal_windows left_shows right_shows).0 (sym comparison-through ∙ none) in
          (omega (arith, h.0, here_rows s o e, here_rows t p f), λ x inside. sym (left x) ∙ h.1 x (omega (arith, here_rows s o e)) ∙ right x)

      back : (o.column.rows ≡ p.column.rows) × ((x : ℕ) → x < o.column.rows → row_at o.column o.table s x ≡ row_at p.column p.table t x)
          → comparison s t ≡ named_line (ascii "lines ") 0
      back h =
          comparison-through
          ∙ (equal_windows left_shows right_shows).1
          (omega (arith, h.0, here_rows s o e, here_rows t p f), λ x inside. left x ∙ h.1 x (omega (arith, here_rows s o e)) ∙ sym (right x))

-- a column compared with itself
pub comparison_self : (s : List ℕ) (o : Loaded) → opened_here s ≡ value o → comparison s s ≡ named_line (ascii "lines ") 0
comparison_self s o e = comparison-through s s o o e e ∙ compared_self (own_row o.column s) (max o.column.window.rows o.column.window.rows)
