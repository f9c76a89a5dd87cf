-- Windows in a column.
--     value_window, asked_twice                          what a window does not change
--     wholly_row, window_row_lem                                         a window's rows are the column's, moved by its first; a refusal names the row as it was asked for
--     narrowed_is                                        what narrowing came to
--     window_in_window                                   narrowing twice is narrowing once
--     NarrowedFrom, seen_through                         a column that was opened and narrowed any number of times shows a window that lies in it
--     own_windows, never_unfit                           so, read with the bytes and the table of its opening, it never meets 13
--     shown_long, shown_at, shown_all                    the part of a list that a window shows
-- Assumes nothing.
use Prim.Native.Nat.{ℕ, ◌+◌, ◌/◌, ◌≤◌, ◌<◌}
use mathlib.Core.Path.{◌≡◌, refl, sym, ap, ◌∙◌, subst}
use mathlib.Core.Bool.{Bool, true, false}
use mathlib.Core.Logic.{⊎_elim}
use mathlib.Core.List.{List, [], ◌∷◌, map}
use native.Mathlib.Nat.{zero-add, add_assoc}
use native.Mathlib.Omega.{arith}
use lib.Dec.{leb}
use lib.ListN.{length, drop, get_or, length-take, length-drop}
use lib.Seq.{get_or-take, get_or-drop, ext_get_or}
use borrow.Author.Tests.{lt-ltb, le-ltb, le-leb, leb-true}
use Rattle.format.specs.declared.Block.{Block}
use Rattle.format.specs.declared.Codec.{Codec}
use Rattle.format.specs.declared.Codec.TheVariants.{Bitpacked, Linear, Blockwise}
use Rattle.format.specs.declared.Column.{Column}
use Rattle.format.specs.declared.Window.{Window}
use Rattle.format.specs.Outcome.{Outcome, Outcome.value, Outcome.refusal, ◌>>◌, demand}
use Rattle.format.specs.Opening.{Loaded, opened}
use Rattle.format.specs.Reading.{column_row, window_fits, column_fits, row_fits, fits, packed_of, value_in, value_at, block_at, asked_as, row_in, row_at}
use Rattle.format.specs.Windows.{windowed, narrowed, whole}
use Rattle.format.specs.Demands.{filled_by, LiesIn, shown}
use Rattle.format.proofs.Lists.{below_or}
use Rattle.format.proofs.Outcomes.{not_value, value_same, by_demand}
use Rattle.format.proofs.Laid.{opened-whole}
use Rattle.format.proofs.Rows.{ValueOr14, own_row}

-- ---- a window's rows are the column's

-- a row's value is that of the column's row, whatever the window
pub value_window : (codec : Codec) (col : Column) (w : Window) (b : Block) (q n : ℕ) → value_in codec (windowed col w) b q n ≡ value_in codec col b q n
unfolding value_in
value_window Bitpacked col w b q n = refl
value_window (Linear l bits) col w b q n = refl
value_window Blockwise col w b q n = refl

named_twice : (r q : ℕ) (also : List ℕ) → map (λ (x : ℕ). r) (map (λ (x : ℕ). q) also) ≡ map (λ (x : ℕ). r) also
named_twice r q [] = refl
named_twice r q (x ∷ also) = ap (λ (l : List ℕ). r ∷ l) (named_twice r q also)

-- of two names for a row, the last one stands
pub asked_twice : (r q : ℕ) (o : Outcome ℕ) → asked_as r (asked_as q o) ≡ asked_as r o
asked_twice r q (value v) = refl
asked_twice r q (refusal number also) = ap (refusal number) (named_twice r q also)

-- a column seen as a whole
abbrev pub wholly : Column → Column
wholly col = windowed col (record { first = 0; rows = col.rows })

-- it fits together with bytes and a table where the column itself does, if its window lies in it
fits_wholly : (col : Column) (blocks : ℕ) (b : Block) (s : List ℕ) (q : ℕ) → window_fits col ≡ true → fits (wholly col) blocks b s q ≡ fits col blocks b s q
unfolding fits column_fits row_fits
fits_wholly col blocks b s q inside = rw (inside, zero-add col.rows, le-leb col.rows col.rows (omega arith))

-- and its rows have the same values
value_wholly : (col : Column) (b : Block) (s : List ℕ) (q : ℕ) → value_at (wholly col) b s q ≡ value_at col b s q
unfolding packed_of
value_wholly col b s q = value_window col.codec col (record { first = 0; rows = col.rows }) b q (packed_of col b s q)

-- a tested answer, named anew
asked_tested : (test : Bool) (r q : ℕ) (o : Outcome ℕ) → asked_as r (demand test 13 [] >> asked_as q o) ≡ (demand test 13 [] >> asked_as r o)
asked_tested true r q o = asked_twice r q o
asked_tested false r q o = refl

-- a row of a column seen as a whole
pub wholly_row : (col : Column) (t : List Block) (s : List ℕ) (q : ℕ) → window_fits col ≡ true → q < col.rows
    → row_at (wholly col) t s q ≡ (demand (fits col (length t) (block_at t (q / 512)) s q) 13 [] >> asked_as q (value_at col (block_at t (q / 512)) s q))
unfolding row_in
wholly_row col t s q inside h =
    let b = block_at t (q / 512) in
    rw (lt-ltb q col.rows h, zero-add q, fits_wholly col (length t) b s q inside, value_wholly col b s q)

-- a window's rows are the column's, moved by its first
pub window_row_lem : (col : Column) (t : List Block) (s : List ℕ) (r : ℕ) → window_fits col ≡ true → r < col.window.rows
    → row_at col t s r ≡ asked_as r (row_at (wholly col) t s (column_row col r))
unfolding row_in
window_row_lem col t s r inside h =
    let q = column_row col r in
    let b = block_at t (q / 512) in
    let there : q < col.rows = omega (arith, leb-true (col.window.first + col.window.rows) col.rows inside) in
    let one : row_at col t s r ≡ (demand (fits col (length t) b s q) 13 [] >> asked_as r (value_at col b s q)) = rw (lt-ltb r col.window.rows h) in
    one ∙ sym (asked_tested (fits col (length t) b s q) r q (value_at col b s q)) ∙ ap (asked_as r) (sym (wholly_row col t s q inside there))

-- ---- narrowing

-- what narrowing came to: the rows lie in the window, that in the column, and the new window is counted from the column's first row
pub record NarrowedTo (col d : Column) (first count : ℕ) : Type 0 where
  pub rows : first + count ≤ col.window.rows
  pub inside : col.window.first + col.window.rows ≤ col.rows
  pub is : d ≡ windowed col (record { first = column_row col first; rows = count })

pub narrowed_is : (col d : Column) (first count : ℕ) → narrowed col first count ≡ value d → NarrowedTo col d first count
unfolding narrowed
narrowed_is col d first count e =
    by_demand (leb (first + count) col.window.rows) 12 [] _ e
    (λ rows rest. by_demand (window_fits col) 13 [] _ rest
    (λ inside is. record { rows = leb-true _ _ rows; inside = leb-true _ _ inside; is = sym (value_same is) }))

-- a column whose window lies in it is narrowed to rows that lie in the window
pub narrows : (col : Column) (first count : ℕ) → first + count ≤ col.window.rows → col.window.first + col.window.rows ≤ col.rows
    → narrowed col first count ≡ value (windowed col (record { first = column_row col first; rows = count }))
unfolding narrowed
narrows col first count rows inside = rw (le-leb _ _ rows, le-leb _ _ inside)

-- narrowing twice is narrowing once
pub window_in_window : (col d e : Column) (first count next more : ℕ) → narrowed col first count ≡ value d → narrowed d next more ≡ value e
    → narrowed col (first + next) more ≡ value e
window_in_window col d e first count next more once twice =
    let a = narrowed_is col d first count once in
    let b = narrowed_is d e next more twice in
    let within : next + more ≤ count = rw a.is at b.rows in
    narrows col (first + next) more (omega (arith, a.rows)) a.inside
    ∙ ap (λ (n : ℕ). value (windowed col (record { first = n; rows = more }))) (sym (add_assoc col.window.first first next))
    ∙ ap value (sym (b.is ∙ ap (λ (c : Column). windowed c (record { first = column_row c next; rows = more })) a.is))

-- ---- opened and narrowed any number of times

-- a column that comes of another by narrowing
pub data NarrowedFrom (col : Column) : Column → Type 0 where
  itself : NarrowedFrom col col
  again : {c d : Column} (first count : ℕ) → NarrowedFrom col c → narrowed c first count ≡ value d → NarrowedFrom col d

-- it shows a window that lies in the column
pub record Seen (o : Loaded) (d : Column) : Type 0 where
  pub window : Window
  pub inside : LiesIn window o
  pub is : d ≡ windowed o.column window

pub seen_through : (s : List ℕ) (room : ℕ) (o : Loaded) → opened s room ≡ value o → {d : Column} → NarrowedFrom o.column d → Seen o d
seen_through s room o e itself = record { window = whole o; inside = omega arith; is = ap (λ (l : Loaded). l.column) (sym (opened-whole s room o e)) }
seen_through s room o e (again {c} {d} first count from n) =
    let before = seen_through s room o e from in
    let a = narrowed_is c d first count n in
    let w = before.window in
    let rows : first + count ≤ w.rows = rw before.is at a.rows in
    record {
      window = record { first = w.first + first; rows = count };
      inside = omega (arith, before.inside);
      is = a.is ∙ ap (λ (x : Column). windowed x (record { first = column_row x first; rows = count })) before.is;
    }

module _ (s : List ℕ) (table : List Block) (o : Loaded) (e : opened s (length table) ≡ value o) {d : Column} (from : NarrowedFrom o.column d) where
  -- each of its rows has a value or is refused 14
  pub own_windows : (r : ℕ) → r < d.window.rows → ValueOr14 r (row_at d (filled_by o table) s r)
  own_windows r =
      let w = seen_through s (length table) o e from in
      subst (λ (c : Column). r < c.window.rows → ValueOr14 r (row_at c (filled_by o table) s r)) (sym w.is) (own_row s table o e w.window w.inside r)

  -- and no row whatever meets 13
  pub never_unfit : (r : ℕ) → row_at d (filled_by o table) s r ≡ refusal 13 [] → ⊥
  unfolding row_in
  never_unfit r unfit =
      ⊎_elim
      (λ (h : r < d.window.rows).
      ⊎_elim
      (λ (v : (v : ℕ) × (row_at d (filled_by o table) s r ≡ value v)). not_value (sym unfit ∙ v.1))
      (λ (q : row_at d (filled_by o table) s r ≡ refusal 14 (r ∷ [])). omega (arith, apart (sym unfit ∙ q)))
      (own_windows r h))
      (λ (h : d.window.rows ≤ r). let outside : row_at d (filled_by o table) s r ≡ refusal 12 [] = rw (le-ltb _ _ h) in omega (arith, apart (sym unfit ∙ outside)))
      (below_or r d.window.rows)
    where
      apart : {n : ℕ} {also : List ℕ} → ◌≡◌ {A = Outcome ℕ} (refusal 13 []) (refusal n also) → n ≡ 13
      apart e = cc

-- ---- the part of a list that a window shows

module _ (w : Window) (vs : List ℕ) (h : w.first + w.rows ≤ length vs) where
  pub shown_long : length (shown w vs) ≡ w.rows
  shown_long = length-take w.rows (drop w.first vs) ∙ omega (arith, length-drop w.first vs)

  pub shown_at : (r : ℕ) → r < w.rows → get_or (shown w vs) r 0 ≡ get_or vs (w.first + r) 0
  shown_at r k = get_or-take w.rows (drop w.first vs) r 0 k ∙ get_or-drop w.first vs r 0

-- a window of all of it shows all of it
pub shown_all : (w : Window) (vs : List ℕ) → w.first ≡ 0 → w.rows ≡ length vs → shown w vs ≡ vs
shown_all w vs from all =
    let long = shown_long w vs (omega arith) in
    ext_get_or 0 (shown w vs) vs (long ∙ all)
    (λ (i : ℕ) (h : i < length (shown w vs)). shown_at w vs (omega arith) i (omega (arith, long)) ∙ ap (λ (k : ℕ). get_or vs k 0) (omega arith))
