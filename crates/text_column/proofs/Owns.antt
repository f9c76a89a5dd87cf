-- A column that a program opened, seen through a window, with the bytes that it was opened from.
--     own_few                                        it has fewer than 2^32 rows
--     own_checked, own_blocks, own_block             its blocks were checked, as many as the table's; a pass at a block has the table's block at hand
--     owned_first, owned_at, owned_narrowed          the pass before the first block, and at a block; the pass stays where the column is narrowed
--     own_window, own_there, own_moved               the window lies in the column; a row of it is one of the column's, and below 2^32
--     own_row_block                                  a pass at its block has the table's block at hand
--     own_fits                                       all fits together at each of its rows: none is refused 13
--     own_answers, own_values                        so what a row answers is its value, or 14; the values of a chunk of which no row is refused
-- Assumes nothing.
use Rattle.format.specs.declared.Refusal.{Refusal}
use Rattle.text_column.specs.declared.own.Own.{Own}
use Rattle.std.specs.Prelude.{Result, Ok, Err}
use Prim.Native.Nat.{ℕ, ◌+◌, ◌-◌, ◌*◌, ◌/◌, ◌%◌, ◌^◌, ◌≤◌, ◌<◌}
use mathlib.Core.Path.{◌≡◌, refl, sym, ap, ◌∙◌, subst}
use mathlib.Core.Bool.{true}
use mathlib.Core.List.{List}
use native.Mathlib.Omega.{arith}
use lib.ListN.{length, get_or}
use borrow.Author.Tests.{le-ltb}
use Rattle.format.specs.declared.Block.{Block}
use Rattle.format.specs.declared.Column.{Column}
use Rattle.format.specs.Bodies.{block_count}
use Rattle.format.specs.Listing.{opened_here}
use Rattle.format.specs.Outcome.{Outcome, Outcome.value, Outcome.refusal}
use Rattle.format.specs.Reading.{column_row, block_at, place_of, fits, value_at, asked_as}
use Rattle.format.specs.Runs.{read_run, filled_to}
use Rattle.format.specs.Refusals.{narrowed_meaning}
use Rattle.format.specs.Windows.{narrowed, column_after, narrowing}
use Rattle.format.proofs.Rows.{row_fits_lem, row_answers}
use Rattle.format.proofs.Windows.{narrowed_is}
use Rattle.blockwise_linear.specs.declared.passing.Pass.{Pass}
use Rattle.blockwise_linear.specs.Passing.{passed, Passing}
use Rattle.blockwise_linear.specs.Reader.{first_cursor, blocks_from, Good}
use Rattle.blockwise_linear.proofs.Stops.{passing_starts}
use Rattle.read_row.specs.Chunks.{Fitting, chunk_size}
use Rattle.read_row.proofs.Fitting.{fitting}
use Rattle.read_chunk.proofs.Stretches.{run_stretch, stretch_value}
use Rattle.open_column.proofs.Passes.{opened-footer, pass_block, few_blocked, passing_at}
use Rattle.text_column.specs.Own.{table_of, own_row, block_rows, narrowed_in, own_in, block_of, pass_at, Shows, Owned, AtRow}
use Rattle.text_column.proofs.Limits.{here_opened}
use Rattle.text_column.proofs.Rows.{here_laid, shows_narrowed, by_shown, shows_laid}

module _ {s : List ℕ} {c : Column} (e : Shows s c) where
  -- ---- its blocks

  pub own_few : c.rows < 2 ^ 32
  own_few = by_shown e (λ (c : Column). c.rows < 2 ^ 32) (here_laid s e.found e.opened).head.few

  pub own_checked : Good (blocks_from s (first_cursor s (block_rows c)))
  own_checked = by_shown e (λ (c : Column). Good (blocks_from s (first_cursor s (block_rows c)))) (opened-footer s 2048 e.found (here_opened s e.found e.opened)).checked

  pub own_blocks : block_count (block_rows c) ≡ length (table_of (opened_here s))
  own_blocks =
      by_shown e (λ (c : Column). block_count (block_rows c) ≡ length (table_of (opened_here s)))
      (rw e.opened (opened-footer s 2048 e.found (here_opened s e.found e.opened)).count)

  pub own_block : (k : ℕ) → 512 * k < c.rows → (pass_at s c k).block ≡ block_at (table_of (opened_here s)) k
  own_block k =
      let first : 512 * k / 512 ≡ k = omega arith in
      by_shown e (λ (c : Column). 512 * k < c.rows → (pass_at s c k).block ≡ block_at (table_of (opened_here s)) k)
      (λ inside. rw e.opened (rw first at (pass_block s 2048 e.found (here_opened s e.found e.opened) (here_laid s e.found e.opened).head.few (512 * k) inside)))

  -- fewer than 2^32 rows have blocks
  pub few_blocks : block_rows c < 2 ^ 32
  few_blocks = few_blocked c.codec own_few

  pub owned_first : Owned s c (passed s (block_rows c) 0)
  owned_first = record { shows = e; pass = (passing_starts refl).0 }

  pub owned_at : (k : ℕ) → Owned s c (pass_at s c k)
  owned_at k = record { shows = e; pass = passing_at few_blocks own_checked _ (omega arith) }

  -- ---- a row of the window

  pub own_window : c.window.first + c.window.rows ≤ c.rows
  own_window = by_shown e (λ (k : Column). k.window.first + k.window.rows ≤ k.rows) e.inside

  module _ {r : ℕ} (inside : r < c.window.rows) where
    pub own_there : column_row c r < c.rows
    own_there = omega (arith, inside, own_window)

    -- nothing is lost modulo 2^32
    pub own_moved : column_row c r % 2 ^ 32 ≡ column_row c r
    own_moved = omega (arith, own_there, own_few)

    pub own_row_block : (pass_at s c (block_of c r)).block ≡ block_at (table_of (opened_here s)) (column_row c r / 512)
    own_row_block = own_block (block_of c r) (omega (arith, own_there, own_moved)) ∙ ap (λ (q : ℕ). block_at (table_of (opened_here s)) (q / 512)) own_moved

-- a narrowed column has the same blocks, so the pass stays; and what is refused is as it was
pub owned_narrowed : {s : List ℕ} {c : Column} {p : Pass} (first count : ℕ) (r : Result Own (Refusal × Own)) → Owned s c p → narrowed_meaning (narrowed_in r) ≡ narrowing c first count → (own_in r).pass ≡ p
    → Owned s (own_in r).column (own_in r).pass
owned_narrowed {s} {c} {p} first count r f answer same = subst (λ (q : Pass). Owned s (own_in r).column q) (sym same) (go (narrowed c first count) refl r answer)
  where
    after : (r : Result Own (Refusal × Own)) → (own_in r).column ≡ (narrowed_meaning (narrowed_in r)).1
    after (Ok o) = refl
    after (Err (why, o)) = refl

    go : (o : Outcome Column) → narrowed c first count ≡ o → (r : Result Own (Refusal × Own)) → narrowed_meaning (narrowed_in r) ≡ (o, column_after o c) → Owned s (own_in r).column p
    go (value d) n r answer =
        subst (λ (k : Column). Owned s k p) (sym (after r ∙ ap (λ (a : Outcome Column × Column). a.1) answer))
        (record { shows = shows_narrowed first count f.shows n; pass = subst (λ (k : Column). Passing s (block_rows k) p) (sym (narrowed_is c d first count n).is) f.pass })
    go (refusal number also) n r answer = subst (λ (k : Column). Owned s k p) (sym (after r ∙ ap (λ (a : Outcome Column × Column). a.1) answer)) f

module _ {s : List ℕ} {c : Column} {b : Block} {r : ℕ} (a : AtRow s c b r) where
  -- all fits together there
  pub own_fits : Fitting c (place_of c b (column_row c r)) s
  own_fits =
      fitting c (length (table_of (opened_here s))) b s (column_row c r) (rw a.block
      (by_shown a.shows
      (λ (c : Column). r < c.window.rows → fits c (length (table_of (opened_here s))) (block_at (table_of (opened_here s)) (column_row c r / 512)) s (column_row c r) ≡ true)
      (λ h. rw a.shows.opened (row_fits_lem (shows_laid a.shows) s (omega arith) r h)) a.inside))

  -- so it answers its value, or 14
  pub own_answers : asked_as r (value_at c b s (column_row c r)) ≡ own_row c s r
  own_answers =
      rw a.block
      (by_shown a.shows
      (λ (c : Column). r < c.window.rows → asked_as r (value_at c (block_at (table_of (opened_here s)) (column_row c r / 512)) s (column_row c r)) ≡ own_row c s r)
      (λ h. rw a.shows.opened (sym (row_answers (shows_laid a.shows) s (omega arith) r h))) a.inside)

-- the values of the rows from one on to the end of its block, where a list was filled with them, which begins with row q of the column
pub own_values : {s : List ℕ} {c : Column} {b : Block} {r : ℕ} (n q : ℕ) (list : List ℕ) → AtRow s c b r → q ≡ column_row c r → filled_to n q list ≡ read_run (value_at c b s) q (length list)
    → length list ≤ n → length list ≡ chunk_size (column_row c r) (c.window.rows - r) → (j : ℕ) → j < length list → own_row c s (r + j) ≡ value (get_or list j 0)
own_values {s} {c} {b} {r} n q list a at filled full long j h =
    let run : value list ≡ read_run (value_at c b s) q (length list) = rw (le-ltb n (length list) full) at filled in
    let all = (run_stretch (value_at c b s) q (length list) list (sym run)).0 in
    let is : value_at c b s (q + j) ≡ value (get_or list j 0) = rw all at (stretch_value (value_at c b s) q (length list) j (rw all h)) in
    let same : column_row c r / 512 ≡ column_row c (r + j) / 512 = omega arith in
    let here : AtRow s c b (r + j) = record { shows = a.shows; inside = omega (arith, a.inside); block = a.block ∙ ap (block_at (table_of (opened_here s))) same } in
    let moved : column_row c (r + j) ≡ q + j = omega arith in
    sym (own_answers here) ∙ ap (λ (k : ℕ). asked_as (r + j) (value_at c b s k)) moved ∙ ap (asked_as (r + j)) is
