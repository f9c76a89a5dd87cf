-- A replay's line, from what opening answered and what was written.
--     reported_column      a column that does not open
--     reported_long        a recording of too many bytes
--     reported_run         a replay
-- Assumes nothing.
use Rattle.format.specs.declared.Report.{Report}
use Rattle.format.specs.Refusals.{answered_by}
use Rattle.std.specs.Prelude.{Option, Result, Ok, Err}
use Prim.Native.Nat.{ℕ, ◌≤◌, ◌<◌}
use mathlib.Core.Path.{◌≡◌, refl, sym, ap, ◌∙◌, subst}
use mathlib.Core.List.{List}
use borrow.Author.Tests.{le-leb, lt-leb}
use lib.ListN.{length}
use Rattle.format.specs.declared.Column.{Column}
use Rattle.format.specs.declared.Refusal.{Refusal}
use Rattle.format.specs.Listing.{ascii, named_line, opened_here}
use Rattle.format.specs.Opening.{Loaded, column_in}
use Rattle.format.specs.Outcome.{Outcome, Wrote}
use Rattle.format.specs.Replaying.{replayed}
use Rattle.text.specs.Refused.{refused_by}
use Rattle.text_column.specs.Own.{own_row}
use Rattle.text_column.proofs.Answered.{found_column, found_refusal}
use Rattle.text_column.proofs.Rows.{own_reads}
use Rattle.text_replay.specs.Report.{report_line, replayed_here, report_or, report}

-- replaying within the limit, and beyond it
replayed_short : (read : ℕ → Outcome ℕ) (rows : ℕ) (recording : List ℕ) → length recording ≤ 262144 → replayed read rows recording ≡ replayed_here read rows recording
unfolding replayed_here
replayed_short read rows recording short = rw (le-leb (length recording) 262144 short) refl

replayed_long : (read : ℕ → Outcome ℕ) (rows : ℕ) (recording : List ℕ) → 262144 < length recording → named_line (ascii "recording refused ") 16 ≡ report_line (replayed_here read rows recording)
unfolding replayed_here
replayed_long read rows recording long = rw (lt-leb (length recording) 262144 long) refl

-- the line that was written is the one of what opening found
by_line : (s recording : List ℕ) {line : List ℕ} {n : ℕ} {old new : List ℕ} → line ≡ report_or (opened_here s) s recording → Wrote old 0 line new n → Wrote old 0 (report s recording) new n
unfolding report
by_line s recording {line} {n} {old} {new} is wrote = subst (λ (l : List ℕ). Wrote old 0 l new n) is wrote

module _ (s recording : List ℕ) {r : Result (Column × Option ℕ) Refusal} (answer : answered_by r ≡ column_in (opened_here s)) where
  pub reported_column : {x : Refusal} {n : ℕ} {old new : List ℕ} → r ≡ Err x → Wrote old 0 (named_line (ascii "column refused ") (refused_by (answered_by r))) new n
      → Wrote old 0 (report s recording) new n
  reported_column is = by_line s recording (sym (ap (λ (o : Outcome Loaded). report_or o s recording) (found_refusal s answer is).1))

  module _ {c : Column} {p : Option ℕ} (is : r ≡ Ok (c, p)) where
    -- the line of the column that was opened
    opened_line : report_or (opened_here s) s recording ≡ report_line (replayed_here (own_row c s) c.window.rows recording)
    opened_line =
        let e = found_column s answer is in
        let o = e.found in
        ap (λ (x : Outcome Loaded). report_or x s recording) e.opened
        ∙ ap (λ (read : ℕ → Outcome ℕ). report_line (replayed_here read o.column.window.rows recording)) (sym (own_reads s o e.opened o.column))
        ∙ ap (λ (k : Column). report_line (replayed_here (own_row k s) k.window.rows recording)) e.column

    pub reported_long : {n : ℕ} {old new : List ℕ} → 262144 < length recording → Wrote old 0 (named_line (ascii "recording refused ") 16) new n → Wrote old 0 (report s recording) new n
    reported_long long = by_line s recording (replayed_long (own_row c s) c.window.rows recording long ∙ sym opened_line)

    pub reported_run : (a : Result Report Refusal) {n : ℕ} {old new : List ℕ} → length recording ≤ 262144 → answered_by a ≡ replayed (own_row c s) c.window.rows recording
        → Wrote old 0 (report_line (answered_by a)) new n → Wrote old 0 (report s recording) new n
    reported_run a short means = by_line s recording (ap report_line (means ∙ replayed_short (own_row c s) c.window.rows recording short) ∙ sym opened_line)
