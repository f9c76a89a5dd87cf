-- A check within a program's limits, from the verdict with room for 2048 blocks.
--     over_bytes          more than 65,536 bytes: 16, whatever they are
--     within_limits       else the limited verdict, for a list that is not longer than the limit on rows
-- Assumes nothing.
use Rattle.std.specs.Prelude.{Option, Some, None}
use Prim.Native.Nat.{ℕ, ◌+◌, ◌*◌, ◌≤◌, ◌<◌}
use mathlib.Core.Path.{◌≡◌, refl}
use mathlib.Core.Bool.{Bool, true, false}
use mathlib.Core.List.{List, []}
use native.Mathlib.Omega.{arith}
use borrow.Author.Tests.{le-leb, lt-leb, ne_eqb, leb-false, leb-true}
use lib.Dec.{leb, eqb}
use lib.ListN.{length}
use Rattle.format.specs.declared.Column.{Column}
use Rattle.format.specs.declared.ColumnStats.{ColumnStats}
use Rattle.format.specs.Checking.{Reason.unopened, Reason.counts, Reason.minimum, Reason.gcd, Reason.maximum, Verdict, Verdict.passed, Verdict.failed, or, by_row, first_unequal, judged_head, judged, checked}
use Rattle.format.specs.Listing.{too_many}
use Rattle.format.specs.Opening.{Loaded}
use Rattle.format.specs.Outcome.{Outcome, Outcome.value, Outcome.refusal, ◌>>◌, demand, pick}
use Rattle.format.specs.Reading.{row_at}
use Rattle.format.specs.Sheets.{opened_under}
use Rattle.format.specs.Stats.{stats_of}
use Rattle.text_check.specs.Verdicts.{opened_here_under, limited}

pub over_bytes : (sheet : ℕ) (s vs : List ℕ) → 65536 < length s → failed (unopened 16 []) ≡ checked (opened_here_under sheet s) s vs
unfolding opened_here_under
over_bytes sheet s vs long = rw (lt-leb (length s) 65536 long)

-- ---- verdicts that no limit changes

-- on the head
three : (a b c : Bool) → limited (or a minimum (or b gcd (or c maximum passed))) ≡ or a minimum (or b gcd (or c maximum passed))
three false b c = refl
three true false c = refl
three true true false = refl
three true true true = refl

head_kept : (col : Column) (s : ColumnStats) → limited (judged_head col s) ≡ judged_head col s
unfolding judged_head
head_kept col s = three (eqb col.minimum s.minimum) (eqb col.gcd s.gcd) (eqb (col.minimum + col.gcd * col.count) s.maximum)

-- on the rows before it
rows_kept : (r : Option ℕ) (v : Verdict) → limited v ≡ v → limited (by_row r v) ≡ by_row r v
rows_kept None v kept = kept
rows_kept (Some r) v kept = refl

-- ---- the limit on rows

-- a column of few rows
few_rows : (read : ℕ → Outcome ℕ) (col : Column) (vs : List ℕ) → col.rows ≤ 1048576 → limited (judged read col vs) ≡ judged read col vs
unfolding judged
few_rows read col vs few = go (eqb col.rows (length vs))
  where
    go : (same : Bool) → limited (or same (counts col.rows (length vs)) (by_row (first_unequal read 0 vs) (judged_head col (stats_of vs)))) ≡ or same (counts col.rows (length vs)) (by_row (first_unequal read 0 vs) (judged_head col (stats_of vs)))
    go true = rows_kept (first_unequal read 0 vs) (judged_head col (stats_of vs)) (head_kept col (stats_of vs))
    go false = rw (le-leb col.rows 1048576 few)

-- a column of more than any list that is checked
many_rows : (read : ℕ → Outcome ℕ) (col : Column) (vs : List ℕ) → 1048576 < col.rows → length vs ≤ 1048576 → limited (judged read col vs) ≡ failed (unopened 16 [])
unfolding judged
many_rows read col vs many short = rw (ne_eqb col.rows (length vs) (λ e. omega arith), lt-leb col.rows 1048576 many)

-- of what an opening found
rows_limit : (o : Outcome Loaded) (s vs : List ℕ) → length vs ≤ 1048576 → limited (checked o s vs) ≡ checked (too_many o) s vs
rows_limit (value l) s vs short = go (leb l.column.rows 1048576) refl
  where
    go : (few : Bool) → leb l.column.rows 1048576 ≡ few → limited (checked (value l) s vs) ≡ checked (demand few 16 [] >> value l) s vs
    go true e = few_rows (row_at l.column l.table s) l.column vs (leb-true _ _ e)
    go false e = many_rows (row_at l.column l.table s) l.column vs (leb-false _ _ e) short
rows_limit (refusal number also) s vs short = go (eqb number 11)
  where
    go : (room : Bool) → pick room (failed (unopened 16 [])) (failed (unopened number also)) ≡ checked (pick room (refusal 16 []) (refusal number also)) s vs
    go true = refl
    go false = refl

pub within_limits : (sheet : ℕ) (s vs : List ℕ) {v : Verdict} → length s ≤ 65536 → length vs ≤ 1048576 → v ≡ checked (opened_under sheet s 2048) s vs → limited v ≡ checked (opened_here_under sheet s) s vs
unfolding opened_here_under
within_limits sheet s vs small short is = rw (le-leb (length s) 65536 small, is) (rows_limit (opened_under sheet s 2048) s vs short)
