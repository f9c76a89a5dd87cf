-- Laws of checking a column against a list, and what a verdict says.
--     all_equal, equal_all          no row is unequal exactly when each reads as its value
--     Matches, passed_matches, matches_passed      a column is passed exactly when all holds
--     matches_found                  then every lookup answers as the list
--     head_kept, written-passed      what was written from a list is passed for it, wherever the table has room
-- Assumes nothing.
use Rattle.std.specs.Prelude.{Option, Some, None}
use Prim.Native.Nat.{ℕ, zero, suc, ◌+◌, ◌*◌, ◌^◌, ◌≤◌, ◌<◌}
use mathlib.Core.Path.{◌≡◌, refl, sym, ap, ◌∙◌, subst}
use mathlib.Core.Bool.{Bool, true, false}
use mathlib.Core.List.{List, [], ◌∷◌}
use native.Mathlib.Nat.{add-zero, add-suc, suc-add, zero-add, not-suc-le-zero, le_of_suc-le-suc, mul_comm}
use native.Mathlib.Omega.{arith}
use lib.Dec.{eqb}
use lib.ListN.{length, get_or}
use borrow.Author.Tests.{eqb-true, eq-eqb}
use Rattle.format.specs.declared.Column.{Column}
use Rattle.format.specs.Outcome.{Outcome, Outcome.value, Outcome.refusal, pick}
use Rattle.format.specs.declared.Head.{Head}
use Rattle.format.specs.Word.{AllBelow}
use Rattle.format.specs.Bodies.{body, bitpacked, linear, blockwise, block_count, column_by}
use Rattle.format.specs.Writing.{written}
use Rattle.format.specs.Opening.{Loaded, opened}
use Rattle.format.specs.Reading.{column_row, row_at, asked_as}
use Rattle.format.specs.Stats.{stats_of, least, greatest, gcd_of, read_head}
use Rattle.format.specs.Lookup.{looked_up}
use Rattle.format.specs.Demands.{reads_as}
use Rattle.format.proofs.Lookups.{looked_agree}
use Rattle.format.proofs.Outcomes.{value_same}
use Rattle.format.proofs.Openings.{bitpacked_of, linear_of, blockwise_of, by_opening}
use Rattle.format.proofs.Heads.{written_head, count_in, read_head_lem}
use Rattle.format.proofs.Statistics.{count_back}
use Rattle.format.proofs.Laid.{opened_laid, opened-whole}
use Rattle.format.proofs.Rows.{value_of, row_answers}
use Rattle.format.proofs.Writes.{written_as}
use Rattle.format.proofs.Demand2.{any_codec}
use Rattle.format.specs.Comparing.{equal_answers}
use Rattle.format.specs.Checking.{Reason, Verdict, Verdict.passed, Verdict.failed, first_unequal, by_row, judged_head, judged, checked}

-- an answer that equals a value is it
answer_equal : (o : Outcome ℕ) (v : ℕ) → equal_answers o (value v) ≡ true → o ≡ value v
answer_equal (value w) v e = ap value (eqb-true w v e)
answer_equal (refusal number also) v e = let z : ◌≡◌ {A = ℕ} 0 1 = cc in absurd (omega arith)

module _ (read : ℕ → Outcome ℕ) where
  pub equal_all : (r : ℕ) (vs : List ℕ) → ((i : ℕ) → i < length vs → read (r + i) ≡ value (get_or vs i 0)) → first_unequal read r vs ≡ None
  unfolding first_unequal
  equal_all r [] h = refl
  equal_all r (v ∷ vs) h =
      let first : read r ≡ value v = ap read (sym (add-zero r)) ∙ h 0 (omega arith) in
      let rest = equal_all (suc r) vs (λ (i : ℕ) (k : i < length vs). ap read (suc-add r i ∙ sym (add-suc r i)) ∙ h (suc i) (omega arith)) in
      rw (first, eq-eqb v v refl) rest

  pub all_equal : (r : ℕ) (vs : List ℕ) → first_unequal read r vs ≡ None → (i : ℕ) → i < length vs → read (r + i) ≡ value (get_or vs i 0)
  unfolding first_unequal
  all_equal r [] e i h = absurd (not-suc-le-zero h)
  all_equal r (v ∷ vs) e i h = by (equal_answers (read r) (value v)) refl (λ f j k. all_equal (suc r) vs f j k) e i h
    where
      by : (t : Bool) → equal_answers (read r) (value v) ≡ t → (first_unequal read (suc r) vs ≡ None → (j : ℕ) → j < length vs → read (suc r + j) ≡ value (get_or vs j 0))
          → pick t (first_unequal read (suc r) vs) (Some r) ≡ None → (i : ℕ) → i < suc (length vs) → read (r + i) ≡ value (get_or (v ∷ vs) i 0)
      by true a later e zero h = ap read (add-zero r) ∙ answer_equal (read r) v a
      by true a later e (suc j) h = ap read (add-suc r j ∙ sym (suc-add r j)) ∙ later e j (le_of_suc-le-suc h)
      by false a later e i h = let z : ◌≡◌ {A = ℕ} 0 1 = cc in absurd (omega arith)

-- a column's rows and head are those of a list
pub record Matches (read : ℕ → Outcome ℕ) (col : Column) (vs : List ℕ) : Type 0 where
  pub count : col.rows ≡ length vs
  pub rows : (i : ℕ) → i < length vs → read i ≡ value (get_or vs i 0)
  pub least : col.minimum ≡ (stats_of vs).minimum
  pub step : col.gcd ≡ (stats_of vs).gcd
  pub greatest : col.minimum + col.gcd * col.count ≡ (stats_of vs).maximum

module _ (read : ℕ → Outcome ℕ) (col : Column) (vs : List ℕ) where
  pub matches_passed : Matches read col vs → judged read col vs ≡ passed
  unfolding judged judged_head
  matches_passed m =
      let all : first_unequal read 0 vs ≡ None = equal_all read 0 vs (λ i h. ap read (zero-add i) ∙ m.rows i h) in
      rw (
        eq-eqb col.rows (length vs) m.count,
        all,
        eq-eqb col.minimum (stats_of vs).minimum m.least,
        eq-eqb col.gcd (stats_of vs).gcd m.step,
        eq-eqb (col.minimum + col.gcd * col.count) (stats_of vs).maximum m.greatest,
      )
      refl

  -- a test that was passed
  test_passed : (t : Bool) (reason : Reason) (next : Verdict) → pick t next (failed reason) ≡ passed → (t ≡ true) × (next ≡ passed)
  test_passed true reason next e = (refl, e)
  test_passed false reason next e = let z : ◌≡◌ {A = ℕ} 0 1 = cc in absurd (omega arith)

  rows_passed : (o : Option ℕ) (next : Verdict) → by_row o next ≡ passed → (o ≡ None) × (next ≡ passed)
  rows_passed None next e = (refl, e)
  rows_passed (Some r) next e = let z : ◌≡◌ {A = ℕ} 0 1 = cc in absurd (omega arith)

  pub passed_matches : judged read col vs ≡ passed → Matches read col vs
  unfolding judged judged_head
  passed_matches e =
      let a = test_passed (eqb col.rows (length vs)) _ _ e in
      let b = rows_passed (first_unequal read 0 vs) _ a.1 in
      let c = test_passed (eqb col.minimum (stats_of vs).minimum) _ _ b.1 in
      let d = test_passed (eqb col.gcd (stats_of vs).gcd) _ _ c.1 in
      let f = test_passed (eqb (col.minimum + col.gcd * col.count) (stats_of vs).maximum) _ _ d.1 in
      record {
        count = eqb-true col.rows (length vs) a.0;
        rows = λ i h. ap read (sym (zero-add i)) ∙ all_equal read 0 vs b.0 i h;
        least = eqb-true col.minimum (stats_of vs).minimum c.0;
        step = eqb-true col.gcd (stats_of vs).gcd d.0;
        greatest = eqb-true (col.minimum + col.gcd * col.count) (stats_of vs).maximum f.0;
      }

  -- and every lookup answers as the list
  pub matches_found : Matches read col vs → (test : ℕ → Bool) (first end room : ℕ) → looked_up read col.rows test first end room ≡ looked_up (reads_as vs) (length vs) test first end room
  matches_found m test first end room =
      ap (λ (n : ℕ). looked_up read n test first end room) m.count ∙ looked_agree read (reads_as vs) (length vs) test first end room (λ x p q. m.rows x q)

-- ---- what was written is passed

-- an opened column has the numbers of its head
pub record HeadOf (o : Loaded) (h : Head) : Type 0 where
  pub minimum : o.column.minimum ≡ h.minimum
  pub gcd : o.column.gcd ≡ h.gcd
  pub count : o.column.count ≡ h.count

pub head_kept : (s : List ℕ) (room : ℕ) (h : Head) → read_head s ≡ value h → (o : Loaded) → opened s room ≡ value o → HeadOf o h
head_kept s room h head =
    by_opening (λ (o : Loaded). HeadOf o h) s room
    (λ g x. of_head g (bitpacked_of g) (record { minimum = refl; gcd = refl; count = refl }) (value_same (sym x.begun.head ∙ head)))
    (λ g l x. of_head g (linear_of g l) (record { minimum = refl; gcd = refl; count = refl }) (value_same (sym x.begun.head ∙ head)))
    (λ g t x. of_head g (blockwise_of g t) (record { minimum = refl; gcd = refl; count = refl }) (value_same (sym x.begun.head ∙ head)))
  where
    of_head : (g : Head) (o : Loaded) → HeadOf o g → g ≡ h → HeadOf o h
    of_head g o k e = subst (λ (x : Head). HeadOf o x) e k

-- the head of a written column is the list's statistics
written_head_lem : (codec : ℕ) (vs : List ℕ) → AllBelow (2 ^ 64) vs → length vs < 2 ^ 32 → read_head (column_by codec vs) ≡ value (written_head vs)
unfolding body bitpacked linear blockwise
written_head_lem zero vs each few = read_head_lem 0 vs _ each few
written_head_lem (suc zero) vs each few = read_head_lem 1 vs _ each few
written_head_lem (suc (suc c)) vs each few = read_head_lem (suc (suc c)) vs _ each few

-- whatever is written from a list is passed for it, with any table that has room for its blocks
pub written-passed : (vs cs bytes : List ℕ) (size room : ℕ) → AllBelow (2 ^ 64) vs → written vs cs size ≡ value bytes → block_count (length vs) ≤ room
    → checked (opened bytes room) bytes vs ≡ passed
unfolding stats_of
written-passed vs cs bytes size room each e enough =
    let w = written_as vs cs bytes size e in
    let back = any_codec w.codec w.known vs each w.few w.applies in
    let o = back.loaded in
    let s = column_by w.codec vs in
    let opens = back.opens room enough in
    let laid = opened_laid s room o opens in
    let shows : o.column.rows ≡ o.column.window.rows = ap (λ (q : Loaded). q.column.window.rows) (opened-whole s room o opens) in
    let first : 0 ≡ o.column.window.first = ap (λ (q : Loaded). q.column.window.first) (opened-whole s room o opens) in
    let head = head_kept s room (written_head vs) (written_head_lem w.codec vs each w.few) o opens in
    let top : o.column.minimum + o.column.gcd * o.column.count ≡ greatest vs =
    rw (head.minimum, head.gcd, head.count) (ap (λ (x : ℕ). least vs + x) (mul_comm (gcd_of vs) (count_in vs)) ∙ count_back vs) in
    rw (w.is, opens)
    (matches_passed (row_at o.column o.table s) o.column vs (record {
      count = back.count;
      rows = λ r h.
          let here : column_row o.column r ≡ r = omega (arith, first) in
          row_answers laid s (omega arith) r (omega (arith, back.count, shows)) ∙ ap (asked_as r) (ap (value_of o s) here ∙ back.values r h);
      least = head.minimum;
      step = head.gcd;
      greatest = top;
    }))
