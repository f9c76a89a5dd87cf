-- What the rows of a column answer that a program opened.
--     lacks, own_lacking                               a row that a window lacks: 12
--     here_laid, here_rows                             it is laid as opening found; its window has all rows
--     own_reads                                        with its own bytes it reads by the opening's own blocks
--     opens_shows, shows_narrowed                      as opened, or narrowed any number of times, it is seen through a window that lies in it
--     by_shown, shows_laid                             what is said of such a column is said of what opening found, with its window
-- Assumes nothing.
use Prim.Native.Nat.{ℕ, ◌≤◌}
use mathlib.Core.Path.{◌≡◌, refl, sym, ap, subst}
use mathlib.Core.List.{List, []}
use native.Mathlib.Omega.{arith}
use borrow.Author.Tests.{le-ltb}
use lib.ListN.{length}
use Rattle.format.specs.declared.Block.{Block}
use Rattle.format.specs.declared.Column.{Column}
use Rattle.format.specs.declared.Window.{Window}
use Rattle.format.specs.Outcome.{Outcome.value, Outcome.refusal}
use Rattle.format.specs.Opening.{Loaded}
use Rattle.format.specs.Reading.{column_row, row_in, row_at}
use Rattle.format.specs.Listing.{opened_here}
use Rattle.format.specs.Windows.{windowed, in_window, narrowed}
use Rattle.format.proofs.Laid.{Laid, opened_laid, laid_in, opened-whole}
use Rattle.format.proofs.Windows.{narrowed_is}
use Rattle.text_column.specs.Own.{table_of, own_row, Opens, Shows}
use Rattle.text_column.proofs.Limits.{here_opened}

-- ---- a column that a program opened

-- a row that a window lacks
pub lacks : (c : Column) (table : List Block) (s : List ℕ) (r : ℕ) → c.window.rows ≤ r → row_at c table s r ≡ refusal 12 []
unfolding row_in
lacks c table s r h = rw (le-ltb r c.window.rows h)

pub own_lacking : (c : Column) (s : List ℕ) (r : ℕ) → c.window.rows ≤ r → own_row c s r ≡ refusal 12 []
own_lacking c s = lacks c (table_of (opened_here s)) s

module _ (s : List ℕ) (o : Loaded) (found : opened_here s ≡ value o) where
  pub here_laid : Laid (length s) 2048 o
  here_laid = opened_laid s 2048 o (here_opened s o found)

  -- its window is the whole column
  pub here_rows : o.column.rows ≡ o.column.window.rows
  here_rows = ap (λ (l : Loaded). l.column.window.rows) (opened-whole s 2048 o (here_opened s o found))

  -- by the table that its opening finds
  pub own_reads : (c : Column) → own_row c s ≡ row_at c o.table s
  own_reads c = λ i r. row_at c (table_of (found i)) s r

-- ---- seen through a window that lies in it

-- as opened, as narrowed once more, and as narrowed any number of times
pub opens_shows : {s : List ℕ} {c : Column} → Opens s c → Shows s c
opens_shows {s} e = subst (λ (c : Column). Shows s c) e.column (record { found = e.found; opened = e.opened; inside = (here_laid s e.found e.opened).window; column = refl })

pub shows_narrowed : {s : List ℕ} {c d : Column} (first count : ℕ) → Shows s c → narrowed c first count ≡ value d → Shows s d
shows_narrowed {s} {c} {d} first count e n =
    let to = narrowed_is c d first count n in
    let w : Window = record { first = column_row c first; rows = count } in
    subst (λ (k : Column). Shows s k) (sym to.is)
    (record { found = e.found; opened = e.opened; inside = omega (arith, to.rows, e.inside); column = ap (λ (k : Column). windowed k w) e.column })

module _ {s : List ℕ} {c : Column} (e : Shows s c) where
  -- what is said of the column is said of what opening found, with its window
  pub by_shown : (P : Column → Type 0) → P (in_window e.found c.window).column → P c
  by_shown P h = subst P e.column h

  pub shows_laid : Laid (length s) 2048 (in_window e.found c.window)
  shows_laid = laid_in (here_laid s e.found e.opened) c.window e.inside
