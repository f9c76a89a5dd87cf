-- What a verdict says, of the calls' own answers: from the contracts of `check_as`, `open_under`, `row`, `lookup` and `serialize_as`.
--     PassedFor, passed_for, for_passed      a column is passed exactly when it opens under the sheet, has the list's rows and statistics; then `row` and `lookup` answer as the list
--     calls_passed                           what `serialize_as` wrote from a list is passed for it, under either sheet, wherever the table has room
-- Assumes nothing.
use Rattle.format.specs.declared.Refusal.{Refusal}
use Rattle.format.specs.declared.Mismatch.{Mismatch}
use Rattle.format.specs.Refusals.{answered_by}
use Rattle.std.specs.Prelude.{Result, Ok}
use Prim.Native.Nat.{ℕ, ◌+◌, ◌*◌, ◌^◌, ◌≤◌, ◌<◌}
use mathlib.Core.Path.{◌≡◌, refl, sym, ap, ◌∙◌, subst}
use mathlib.Core.List.{List}
use native.Mathlib.Omega.{arith}
use lib.ListN.{length, take, get_or}
use Rattle.format.specs.declared.Block.{Block}
use Rattle.format.specs.declared.Kind.{Kind}
use Rattle.format.specs.Bodies.{block_count}
use Rattle.format.specs.Calls.{StoredAs}
use Rattle.format.specs.Checking.{Verdict.passed, checked}
use Rattle.format.specs.Demands.{filled_by, reads_as}
use Rattle.format.specs.Lookup.{looked_up, within}
use Rattle.format.specs.Opening.{Loaded, opened}
use Rattle.format.specs.Outcome.{Outcome, Outcome.value, Outcome.refusal}
use Rattle.format.specs.Reading.{row_at}
use Rattle.format.specs.Sheets.{opened_under}
use Rattle.format.specs.Stats.{stats_of}
use Rattle.format.specs.Typed.{stored_as}
use Rattle.format.specs.Word.{AllBelow}
use Rattle.format.specs.Writing.{written}
use Rattle.format.proofs.Answers.{answered_injective, checked_injective}
use Rattle.format.proofs.Checks.{Matches, passed_matches, matches_passed, written-passed}
use Rattle.format.proofs.Demand2.{demand2, written-passes}
use Rattle.format.proofs.Lookups.{looked_agree}
use Rattle.format.proofs.StoredLists.{stored-length, stored-words}
use Rattle.format.proofs.Writes.{written_as}
use Rattle.format.proofs.Stores.{front_of}
use Rattle.table.proofs.Calls.{written_of, by_sheet}
use Rattle.open_sheet.proofs.SheetNumbers.{accepted}
use Rattle.table_asked.specs.Checked.{CheckedAs}
use Rattle.table_asked.proofs.Tables.{through}

-- ---- what a yes says

-- a column that opens under a sheet, with the rows and the statistics of a list: `row` answers each value, and `lookup` what the list has in the range
pub record PassedFor (sheet : ℕ) (s : List ℕ) (table after : List Block) (vs : List ℕ) : Type 0 where
  pub loaded : Loaded
  pub opens : opened_under sheet s (length table) ≡ value loaded
  pub filled : after ≡ filled_by loaded table
  pub count : loaded.column.rows ≡ length vs
  pub rows : (r : ℕ) → r < length vs → (b : Result ℕ Refusal) → answered_by b ≡ row_at loaded.column after s r → b ≡ Ok (get_or vs r 0)
  pub found : (low high first end : ℕ) (before list : List ℕ) (f : Result ℕ Refusal)
      → StoredAs (looked_up (row_at loaded.column after s) loaded.column.rows (within low high) first end (length before)) f before list
      → StoredAs (looked_up (reads_as vs) (length vs) (within low high) first end (length before)) f before list
  pub minimum : loaded.column.minimum ≡ (stats_of vs).minimum
  pub gcd : loaded.column.gcd ≡ (stats_of vs).gcd
  pub maximum : loaded.column.minimum + loaded.column.gcd * loaded.column.count ≡ (stats_of vs).maximum

module _ (sheet : ℕ) (s : List ℕ) (table after : List Block) (vs : List ℕ) where
  pub passed_for : CheckedAs (opened_under sheet s (length table)) s vs (Ok tt) table after → PassedFor sheet s table after vs
  passed_for f = go (opened_under sheet s (length table)) refl f
    where
      go : (x : Outcome Loaded) → opened_under sheet s (length table) ≡ x → CheckedAs x s vs (Ok tt) table after → PassedFor sheet s table after vs
      go (refusal number also) is f = let z : ◌≡◌ {A = ℕ} 0 1 = cc f.answer in absurd (omega arith)
      go (value o) is f =
          let m = passed_matches (row_at o.column o.table s) o.column vs (sym f.answer) in
          let each : (r : ℕ) → r < length vs → row_at o.column after s r ≡ value (get_or vs r 0) =
          λ r h. through o s table after (accepted sheet s (opened s (length table)) o is) f.table r (omega (arith, m.count)) ∙ m.rows r h in
          record {
            loaded = o;
            opens = is;
            filled = f.table;
            count = m.count;
            rows = λ r h b e. answered_injective b (Ok (get_or vs r 0)) (e ∙ each r h);
            found = λ low high first end before list g.
                subst (λ (x : Outcome (List ℕ)). StoredAs x g before list)
                (ap (λ (n : ℕ). looked_up (row_at o.column after s) n (within low high) first end (length before)) m.count
                ∙ looked_agree (row_at o.column after s) (reads_as vs) (length vs) (within low high) first end (length before) (λ x p q. each x q));
            minimum = m.least;
            gcd = m.step;
            maximum = m.greatest;
          }

  -- and only then
  pub for_passed : (o : Loaded) → opened_under sheet s (length table) ≡ value o → Matches (row_at o.column o.table s) o.column vs
      → (r : Result (Unit {0}) Mismatch) → CheckedAs (opened_under sheet s (length table)) s vs r table after → r ≡ (Ok tt)
  for_passed o is m r f =
      checked_injective r (Ok tt)
      (f.answer ∙ ap (λ (x : Outcome Loaded). checked x s vs) is ∙ matches_passed (row_at o.column o.table s) o.column vs m)

-- ---- what was written

pub calls_passed : (kind : Kind) (xs cs out written_out : List ℕ) (n : ℕ) → AllBelow (2 ^ 64) xs → StoredAs (written (stored_as kind xs) cs (length out)) (Ok n) out written_out
    → (table after : List Block) → block_count (length xs) ≤ length table → (sheet : ℕ) → 0 < sheet → sheet ≤ 2
    → (r : Result (Unit {0}) Mismatch) → CheckedAs (opened_under sheet (take n written_out) (length table)) (take n written_out) (stored_as kind xs) r table after → r ≡ (Ok tt)
calls_passed kind xs cs out written_out n each wrote table after enough sheet more known r f =
    let vs = stored_as kind xs in
    let below = stored-words kind xs each in
    let count : block_count (length vs) ≤ length table = rw (stored-length kind xs) enough in
    let w = written_of (written vs cs (length out)) out written_out n wrote in
    let front : take n written_out ≡ w.0 = front_of out written_out w.0 n w.2 w.3 (written_as vs cs w.0 (length out) w.1).fits in
    let g = demand2.0 vs cs w.0 table (length out) below w.1 count in
    let both = written-passes vs cs w.0 table (length out) below w.1 count g.0 g.1 in
    let same : opened_under sheet w.0 (length table) ≡ opened w.0 (length table) =
    by_sheet sheet w.0 (length table) g.0 g.1 both more known in
    let yes : checked (opened w.0 (length table)) w.0 vs ≡ passed = written-passed vs cs w.0 (length out) (length table) below w.1 count in
    checked_injective r (Ok tt)
    (f.answer ∙ ap (λ (s : List ℕ). checked (opened_under sheet s (length table)) s vs) front ∙ ap (λ (x : Outcome Loaded). checked x w.0 vs) same ∙ yes)
