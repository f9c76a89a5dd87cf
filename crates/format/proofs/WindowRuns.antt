-- A window's runs, lookups and replays are the column's, moved by the window's first row.
--     counted_from                                        an answer of the column, with the row that 14 names counted from the window's start
--     window_answer                                      a row's answer
--     window_run, window_lookup                          a run's, and a lookup's with the rows found
--     column_agrees, window_agrees, window_replay         a replay's: over the column, with every record's rows and recorded rows moved
--     run_never_unfit, lookup_never_unfit                so, opened, narrowed and read with its own bytes and table, no run and no lookup meets 13
-- Assumes nothing.
use Prim.Native.Nat.{ℕ, zero, suc, ◌+◌, ◌-◌, ◌/◌, ◌≤◌, ◌<◌, min}
use mathlib.Core.Path.{◌≡◌, refl, sym, ap, ◌∙◌}
use mathlib.Core.Bool.{Bool, true, false}
use mathlib.Core.Logic.{inl, inr}
use mathlib.Core.List.{List, [], ◌∷◌, map}
use native.Mathlib.Nat.{add-suc}
use native.Mathlib.Omega.{arith}
use lib.Dec.{leb, eqb}
use lib.ListN.{length, length-map}
use borrow.Author.Tests.{le-leb, leb-true, eqb-true, eqb-false, eq-eqb, ne_eqb}
use Rattle.format.specs.declared.Block.{Block}
use Rattle.format.specs.declared.Column.{Column}
use Rattle.format.specs.declared.Recording.{Recording}
use Rattle.format.specs.Outcome.{Outcome, Outcome.value, Outcome.refusal, ◌>>=◌, ◌>>◌, demand, pick}
use Rattle.format.specs.Opening.{Loaded, opened}
use Rattle.format.specs.Reading.{column_row, window_fits, fits, packed_of, value_at, block_at, asked_as, row_at}
use Rattle.format.specs.Runs.{read_run, decoded}
use Rattle.format.specs.Lookup.{all_read, passes, rows_passing, looked_up, within}
use Rattle.format.specs.Replaying.{header_of, record_at, listed_from, is_recording, same_rows, are_rows, found_are, agrees, first_differing, reported, replayed}
use Rattle.format.specs.Demands.{filled_by}
use Rattle.format.proofs.Outcomes.{not_value}
use Rattle.format.proofs.Rows.{ValueOr14, value_or_14}
use Rattle.format.proofs.Windows.{wholly, wholly_row, window_row_lem, NarrowedFrom, never_unfit}

-- ---- answers

-- an answer of the column, with the row that 14 names counted from row k on
abbrev pub counted_from : {A : Type 0} → (k : ℕ) → Outcome A → Outcome A
counted_from k (value a) = value a
counted_from k (refusal number also) = refusal number (pick (eqb number 14) (map (λ (q : ℕ). q - k) also) also)

-- rows of the column, counted from row k on
abbrev pub rows_from : (k : ℕ) → List ℕ → List ℕ
rows_from k rows = map (λ (q : ℕ). q - k) rows

-- a value, or 14, named anew
named_from : (k r : ℕ) (o : Outcome ℕ) → ValueOr14 (k + r) (asked_as (k + r) o) → asked_as r (asked_as (k + r) o) ≡ counted_from k (asked_as (k + r) o)
named_from k r o (inl (v, e)) = rw e
named_from k r o (inr e) =
    let back : k + r - k ≡ r = omega arith in
    rw (e, back)

tested_from : (test : Bool) (k r : ℕ) (o : Outcome ℕ) → ValueOr14 (k + r) (asked_as (k + r) o)
    → asked_as r (demand test 13 [] >> asked_as (k + r) o) ≡ counted_from k (demand test 13 [] >> asked_as (k + r) o)
tested_from true k r o h = named_from k r o h
tested_from false k r o h = refl

-- a window's row answers as the column's does
pub window_answer : (col : Column) (t : List Block) (s : List ℕ) (r : ℕ) → window_fits col ≡ true → r < col.window.rows
    → row_at col t s r ≡ counted_from col.window.first (row_at (wholly col) t s (column_row col r))
window_answer col t s r inside h =
    let k = col.window.first in
    let q = column_row col r in
    let b = block_at t (q / 512) in
    let there : q < col.rows = omega (arith, leb-true (col.window.first + col.window.rows) col.rows inside) in
    let is = wholly_row col t s q inside there in
    window_row_lem col t s r inside h ∙ ap (asked_as r) is
    ∙ tested_from (fits col (length t) b s q) k r (value_at col b s q) (value_or_14 col.codec col b q q (packed_of col b s q))
    ∙ ap (counted_from k) (sym is)

-- ---- runs and lookups, over a reading whose rows are those of another, moved by k

module _ (read all : ℕ → Outcome ℕ) (k : ℕ) where
  -- on the rows from r up to a bound
  abbrev Moved : ℕ → ℕ → Type 0
  Moved r end = (x : ℕ) → r ≤ x → x < end → read x ≡ counted_from k (all (k + x))

  moved_later : (r n : ℕ) → Moved r (r + suc n) → Moved (suc r) (suc r + n)
  moved_later r n h x low high = h x (omega arith) (omega arith)

  moved_step : (o : Outcome ℕ) (u : Outcome (List ℕ))
      → (counted_from k o >>= (λ (v : ℕ). counted_from k u >>= (λ (vs : List ℕ). value (v ∷ vs)))) ≡ counted_from k (o >>= (λ (v : ℕ). u >>= (λ (vs : List ℕ). value (v ∷ vs))))
  moved_step (value v) (value vs) = refl
  moved_step (value v) (refusal number also) = refl
  moved_step (refusal number also) u = refl

  moved_run : (r n : ℕ) → Moved r (r + n) → read_run read r n ≡ counted_from k (read_run all (k + r) n)
  unfolding read_run
  moved_run r zero h = refl
  moved_run r (suc n) h =
      rw (h r (omega arith) (omega arith), moved_run (suc r) n (moved_later r n h), add-suc k r) (moved_step (all (k + r)) (read_run all (suc (k + r)) n))

  moved_on : (o : Outcome ℕ) (u : Outcome (Unit {0})) → (counted_from k o >>= (λ (v : ℕ). counted_from k u)) ≡ counted_from k (o >>= (λ (v : ℕ). u))
  moved_on (value v) u = refl
  moved_on (refusal number also) u = refl

  moved_read : (r n : ℕ) → Moved r (r + n) → all_read read r n ≡ counted_from k (all_read all (k + r) n)
  unfolding all_read
  moved_read r zero h = refl
  moved_read r (suc n) h =
      rw (h r (omega arith) (omega arith), moved_read (suc r) n (moved_later r n h), add-suc k r) (moved_on (all (k + r)) (all_read all (suc (k + r)) n))

  passes_same : (test : ℕ → Bool) (o : Outcome ℕ) → passes test (counted_from k o) ≡ passes test o
  passes_same test (value v) = refl
  passes_same test (refusal number also) = refl

  moved-pick : (b : Bool) (r : ℕ) (rest : List ℕ) → pick b (r ∷ rows_from k rest) (rows_from k rest) ≡ rows_from k (pick b ((k + r) ∷ rest) rest)
  moved-pick true r rest = let back : k + r - k ≡ r = omega arith in rw back
  moved-pick false r rest = refl

  moved-found : (test : ℕ → Bool) (r n : ℕ) → Moved r (r + n) → rows_passing read test r n ≡ rows_from k (rows_passing all test (k + r) n)
  unfolding rows_passing
  moved-found test r zero h = refl
  moved-found test r (suc n) h =
      rw (h r (omega arith) (omega arith), passes_same test (all (k + r)), moved-found test (suc r) n (moved_later r n h), add-suc k r)
      (moved-pick (passes test (all (k + r))) r (rows_passing all test (suc (k + r)) n))

  -- what a lookup comes to of the rows read and the rows found
  moved_answer : (u : Outcome (Unit {0})) (rows : List ℕ) (room : ℕ)
      → (counted_from k u >> (demand (leb (length (rows_from k rows)) room) 15 (length (rows_from k rows) ∷ []) >> value (rows_from k rows)))
      ≡ (counted_from k (u >> (demand (leb (length rows) room) 15 (length rows ∷ []) >> value rows)) >>= (λ (rs : List ℕ). value (rows_from k rs)))
  moved_answer (refusal number also) rows room = refl
  moved_answer (value x) rows room = rw (length-map rows (λ (q : ℕ). q - k)) (go (leb (length rows) room))
    where
      go : (b : Bool) → (demand b 15 (length rows ∷ []) >> value (rows_from k rows))
          ≡ (counted_from k (demand b 15 (length rows ∷ []) >> value rows) >>= (λ (rs : List ℕ). value (rows_from k rs)))
      go true = refl
      go false = refl

-- ---- recorded rows, moved by k

-- every row of a list is k or a later one
abbrev From : (k : ℕ) → List ℕ → Type 0
From k [] = Unit {0}
From k (x ∷ xs) = (k ≤ x) × From k xs

found_later : (read : ℕ → Outcome ℕ) (test : ℕ → Bool) (k r n : ℕ) → k ≤ r → From k (rows_passing read test r n)
unfolding rows_passing
found_later read test k r zero h = tt
found_later read test k r (suc n) h = by (passes test (read r)) (found_later read test k (suc r) n (omega arith))
  where
    by : (b : Bool) → From k (rows_passing read test (suc r) n) → From k (pick b (r ∷ rows_passing read test (suc r) n) (rows_passing read test (suc r) n))
    by true rest = (h, rest)
    by false rest = rest

-- one row of them is a recorded one exactly where it is that one moved
moved_equal : (k x y : ℕ) → k ≤ x → eqb (x - k) y ≡ eqb x (k + y)
moved_equal k x y h = by (eqb x (k + y)) refl
  where
    by : (b : Bool) → eqb x (k + y) ≡ b → eqb (x - k) y ≡ b
    by true e = let is = eqb-true x (k + y) e in eq-eqb (x - k) y (omega arith)
    by false e = let is = eqb-false x (k + y) e in ne_eqb (x - k) y (λ (q : x - k ≡ y). is (omega arith))

moved_rows : (k : ℕ) (xs ys : List ℕ) → From k xs → same_rows (rows_from k xs) ys ≡ same_rows xs (map (λ (q : ℕ). k + q) ys)
unfolding same_rows
moved_rows k [] [] h = refl
moved_rows k [] (y ∷ ys) h = refl
moved_rows k (x ∷ xs) [] h = refl
moved_rows k (x ∷ xs) (y ∷ ys) h = rw (moved_equal k x y h.0, moved_rows k xs ys h.1)

-- lookups that agree with what was recorded record by record differ first at one record
differs_same : (agree other : ℕ → Bool) → ((i : ℕ) → agree i ≡ other i) → (i n : ℕ) → first_differing agree i n ≡ first_differing other i n
unfolding first_differing
differs_same agree other same i zero = refl
differs_same agree other same i (suc n) = rw (same i, differs_same agree other same (suc i) n)

-- ---- a window's runs, lookups and replays

module _ (col : Column) (t : List Block) (s : List ℕ) (inside : window_fits col ≡ true) where
  abbrev k : ℕ
  k = col.window.first

  abbrev read : ℕ → Outcome ℕ
  read = row_at col t s

  abbrev all : ℕ → Outcome ℕ
  all = row_at (wholly col) t s

  -- a run that lies in the window is the column's
  pub window_run : (first n : ℕ) → first + n ≤ col.window.rows
      → decoded read col.window.rows first n ≡ counted_from k (decoded all col.rows (column_row col first) n)
  unfolding decoded
  window_run first n h =
      let fit = leb-true (k + col.window.rows) col.rows inside in
      rw (le-leb (first + n) col.window.rows h, le-leb (k + first + n) col.rows (omega arith))
      (moved_run read all k first n (λ x low high. window_answer col t s x inside (omega arith)))

  -- a lookup in the window is the column's over the window's rows
  pub window_lookup : (test : ℕ → Bool) (first end room : ℕ)
      → looked_up read col.window.rows test first end room
      ≡ (counted_from k (looked_up all col.rows test (column_row col first) (column_row col (min end col.window.rows)) room) >>= (λ (rows : List ℕ). value (rows_from k rows)))
  unfolding looked_up
  window_lookup test first end room =
      let fit = leb-true (k + col.window.rows) col.rows inside in
      let n = min end col.window.rows - first in
      let same : min (k + min end col.window.rows) col.rows - (k + first) ≡ n = omega arith in
      let moved : (x : ℕ) → first ≤ x → x < first + n → read x ≡ counted_from k (all (k + x)) = λ x low high. window_answer col t s x inside (omega arith) in
      rw (same, moved_read read all k first n moved, moved-found read all k test first n moved)
      (moved_answer read all k (all_read all (k + first) n) (rows_passing all test (k + first) n) room)

  -- record i's lookup, over the window's rows as the column counts them, finds its recorded rows, each moved by the window's first row
  abbrev pub column_agrees : Recording → (recording : List ℕ) (i : ℕ) → Bool
  column_agrees h recording i =
      let r = record_at h recording i in
      found_are all (within r.low r.high) (column_row col r.first) (min r.end col.window.rows - r.first) (map (column_row col) (listed_from h recording r.place r.many))

  pub window_agrees : (h : Recording) (recording : List ℕ) (i : ℕ) → agrees read col.window.rows h recording i ≡ column_agrees h recording i
  unfolding agrees found_are
  window_agrees h recording i =
      let r = record_at h recording i in
      let test = within r.low r.high in
      let first = r.first in
      let n = min r.end col.window.rows - r.first in
      let moved : (x : ℕ) → first ≤ x → x < first + n → read x ≡ counted_from k (all (k + x)) = λ x low high. window_answer col t s x inside (omega arith) in
      rw (moved_read read all k first n moved, moved-found read all k test first n moved)
      (go (listed_from h recording r.place r.many) (all_read all (k + first) n) (rows_passing all test (k + first) n) (found_later all test k (k + first) n (omega arith)))
    where
      go : (recorded : List ℕ) (u : Outcome (Unit {0})) (found : List ℕ) → From k found
          → are_rows recorded (counted_from k u >> value (rows_from k found)) ≡ are_rows (map (column_row col) recorded) (u >> value found)
      go recorded (value x) found later = moved_rows k found recorded later
      go recorded (refusal number also) found later = refl

  -- a replay in the window is one over the column, of records moved so; what is no recording is refused all the same
  pub window_replay : (recording : List ℕ)
      → replayed read col.window.rows recording
      ≡ (demand (is_recording recording) 19 [] >> value (reported (header_of recording).records (first_differing (column_agrees (header_of recording) recording) 0 (header_of recording).records)))
  unfolding replayed
  window_replay recording =
      let h = header_of recording in
      rw (differs_same (agrees read col.window.rows h recording) (column_agrees h recording) (window_agrees h recording) 0 h.records)

-- ---- what is refused is refused for a row

-- 13 is no other number
not_13 : {A : Type 0} {n : ℕ} {also : List ℕ} → ◌≡◌ {A = Outcome A} (refusal n also) (refusal 13 []) → n ≡ 13
not_13 e = cc

module _ (read : ℕ → Outcome ℕ) (never : (r : ℕ) → read r ≡ refusal 13 [] → ⊥) where
  run_fits : (r n : ℕ) → read_run read r n ≡ refusal 13 [] → ⊥
  unfolding read_run
  run_fits r zero e = not_value (sym e)
  run_fits r (suc n) e = go (read r) refl (read_run read (suc r) n) refl e (run_fits (suc r) n)
    where
      go : (o : Outcome ℕ) → read r ≡ o → (u : Outcome (List ℕ)) → read_run read (suc r) n ≡ u
          → (o >>= (λ (v : ℕ). u >>= (λ (vs : List ℕ). value (v ∷ vs)))) ≡ refusal 13 [] → (read_run read (suc r) n ≡ refusal 13 [] → ⊥) → ⊥
      go (refusal number also) is u later e rest = never r (is ∙ cc)
      go (value v) is (value vs) later e rest = not_value (sym e)
      go (value v) is (refusal number also) later e rest = rest (later ∙ cc)

  read_fits : (r n : ℕ) → all_read read r n ≡ refusal 13 [] → ⊥
  unfolding all_read
  read_fits r zero e = not_value (sym e)
  read_fits r (suc n) e = go (read r) refl e (read_fits (suc r) n)
    where
      go : (o : Outcome ℕ) → read r ≡ o → (o >>= (λ (v : ℕ). all_read read (suc r) n)) ≡ refusal 13 [] → (all_read read (suc r) n ≡ refusal 13 [] → ⊥) → ⊥
      go (refusal number also) is e rest = never r (is ∙ cc)
      go (value v) is e rest = rest e

  decoded-fits : (rows first n : ℕ) → decoded read rows first n ≡ refusal 13 [] → ⊥
  unfolding decoded
  decoded-fits rows first n e = go (leb (first + n) rows) e
    where
      go : (b : Bool) → (demand b 12 [] >> read_run read first n) ≡ refusal 13 [] → ⊥
      go true e = run_fits first n e
      go false e = omega (arith, not_13 e)

  looked_fits : (rows : ℕ) (test : ℕ → Bool) (first end room : ℕ) → looked_up read rows test first end room ≡ refusal 13 [] → ⊥
  unfolding looked_up
  looked_fits rows test first end room e =
      let n = min end rows - first in
      let found = rows_passing read test first n in
      go (all_read read first n) refl found (leb (length found) room) e
    where
      go : (u : Outcome (Unit {0})) → all_read read first (min end rows - first) ≡ u → (found : List ℕ) (b : Bool) → (u >> (demand b 15 (length found ∷ []) >> value found)) ≡ refusal 13 [] → ⊥
      go (refusal number also) is found b e = read_fits first (min end rows - first) (is ∙ cc)
      go (value x) is found true e = not_value (sym e)
      go (value x) is found false e = omega (arith, not_13 e)

-- ---- opened, narrowed any number of times, and read with its own bytes and table

module _ (s : List ℕ) (table : List Block) (o : Loaded) (e : opened s (length table) ≡ value o) {d : Column} (from : NarrowedFrom o.column d) where
  pub run_never_unfit : (first n : ℕ) → decoded (row_at d (filled_by o table) s) d.window.rows first n ≡ refusal 13 [] → ⊥
  run_never_unfit first n = decoded-fits (row_at d (filled_by o table) s) (never_unfit s table o e from) d.window.rows first n

  pub lookup_never_unfit : (test : ℕ → Bool) (first end room : ℕ) → looked_up (row_at d (filled_by o table) s) d.window.rows test first end room ≡ refusal 13 [] → ⊥
  lookup_never_unfit test first end room = looked_fits (row_at d (filled_by o table) s) (never_unfit s table o e from) d.window.rows test first end room
