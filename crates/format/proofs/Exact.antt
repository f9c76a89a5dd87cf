-- Bytes are what a codec writes of some list exactly if they open, read to the last row and come back when these values are written by it; then of one list only.
--     run_words               the values of a run are those of rows
--     once_written            what one codec alone wrote: it applies, and the bytes are written wherever there is room
--     exactly_written         the theorem
-- Assumes nothing.
use Prim.Native.Nat.{ℕ, zero, suc, ◌+◌, ◌^◌, ◌≤◌, ◌<◌}
use mathlib.Core.Path.{◌≡◌, sym, ap, ◌∙◌, subst}
use mathlib.Core.List.{List, [], ◌∷◌}
use native.Mathlib.Nat.{zero-add}
use native.Mathlib.Omega.{arith}
use lib.Dec.{leb}
use lib.ListN.{length, get_or}
use borrow.Author.Tests.{le-leb}
use Rattle.format.specs.Outcome.{Outcome, Outcome.value, Outcome.refusal, ◌>>=◌}
use Rattle.format.specs.Word.{AllBelow}
use Rattle.format.specs.Bodies.{column_by}
use Rattle.format.specs.Writing.{written}
use Rattle.format.specs.Opening.{Loaded, opened}
use Rattle.format.specs.Reading.{row_at}
use Rattle.format.specs.Runs.{read_run, decoded}
use Rattle.format.specs.Checking.{Verdict.passed, checked}
use Rattle.format.specs.Demands.{Applies}
use Rattle.format.specs.Exact.{all_rows, most_blocks, WrittenBy, ComesBack, ExactlyWritten}
use Rattle.format.proofs.Lists.{all_none, all_cons}
use Rattle.format.proofs.Outcomes.{not_value, value_same, by_step, by_demand}
use Rattle.format.proofs.Runs.{run_of}
use Rattle.format.proofs.TypedLookups.{Words, row_words}
use Rattle.format.proofs.Writes.{Chosen, Verdict, Verdict.many, Verdict.unknown, Verdict.nothing, Verdict.writes, verdict, said, written_said}
use Rattle.format.proofs.Checks.{Matches, passed_matches, written-passed}

-- ---- what reads

module _ (read : ℕ → Outcome ℕ) (words : Words read) where
  pub run_words : (r n : ℕ) (vs : List ℕ) → read_run read r n ≡ value vs → AllBelow (2 ^ 64) vs
  unfolding read_run
  run_words r zero vs e = subst (AllBelow (2 ^ 64)) (value_same e) all_none
  run_words r (suc n) vs e =
      by_step (read r) (λ (v : ℕ). read_run read (suc r) n >>= (λ (us : List ℕ). value (v ∷ us))) e
      (λ v q f. by_step (read_run read (suc r) n) (λ (us : List ℕ). value (v ∷ us)) f
      (λ us p g. subst (AllBelow (2 ^ 64)) (value_same g) (all_cons us (words r v q) (run_words (suc r) n us p))))

rows_words : (s : List ℕ) (room : ℕ) (vs : List ℕ) → all_rows s room ≡ value vs → AllBelow (2 ^ 64) vs
unfolding all_rows decoded
rows_words s room vs e =
    by_step (opened s room) _ e
    (λ o is f. by_demand (leb (0 + o.column.rows) o.column.rows) 12 [] _ f
    (λ fits g. run_words (row_at o.column o.table s) (row_words o.column o.table s) 0 o.column.rows vs g))

-- a column that is passed for a list reads as it
passed_reads : (s vs : List ℕ) (room : ℕ) → checked (opened s room) s vs ≡ passed → all_rows s room ≡ value vs
unfolding all_rows decoded
passed_reads s vs room p = go (opened s room) p
  where
    go : (o : Outcome Loaded) → checked o s vs ≡ passed → (o >>= (λ (l : Loaded). decoded (row_at l.column l.table s) l.column.rows 0 l.column.rows)) ≡ value vs
    go (refusal number also) e = let z : ◌≡◌ {A = ℕ} 0 1 = cc in absurd (omega arith)
    go (value l) e =
        let m : Matches (row_at l.column l.table s) l.column vs = passed_matches (row_at l.column l.table s) l.column vs e in
        rw (le-leb (0 + l.column.rows) l.column.rows (omega arith))
        (ap (read_run (row_at l.column l.table s) 0) m.count ∙ run_of (row_at l.column l.table s) 0 vs (λ i h. ap (row_at l.column l.table s) (zero-add i) ∙ m.rows i h))

-- ---- what is written

-- what one codec alone wrote
pub record Once (codec : ℕ) (vs s : List ℕ) : Type 0 where
  pub few : length vs < 2 ^ 32
  pub applies : Applies codec vs
  pub is : (room : ℕ) → length s ≤ room → written vs (codec ∷ []) room ≡ value s

pub once_written : (codec : ℕ) (vs s : List ℕ) (size : ℕ) → written vs (codec ∷ []) size ≡ value s → Once codec vs s
once_written codec vs s size e = go (verdict vs (codec ∷ [])) (sym (written_said vs (codec ∷ []) size (verdict vs (codec ∷ []))) ∙ e)
  where
    alone : (c : Chosen vs (codec ∷ [])) → c.best.codec ≡ codec
    alone c =
        let first : c.earliest.place ≡ 0 = omega (arith, c.earliest.listed) in
        c.earliest.codec ∙ ap (λ (j : ℕ). get_or (codec ∷ []) j 0) first

    go : (v : Verdict vs (codec ∷ [])) → said v size ≡ value s → Once codec vs s
    go (many h) f = absurd (not_value f)
    go (unknown few u) f = absurd (not_value f)
    go (nothing few k n) f = absurd (not_value f)
    go (writes few k c) f =
        by_demand (leb (length (column_by c.best.codec vs)) size) 4 _ _ f λ enough f.
        let same : column_by c.best.codec vs ≡ s = value_same f in
        record {
          few = few;
          applies = subst (λ (x : ℕ). Applies x vs) (alone c) c.applies;
          is = λ room h.
              written_said vs (codec ∷ []) room (writes few k c)
              ∙ rw (le-leb (length (column_by c.best.codec vs)) room (omega (arith, ap length same))) (ap value same);
        }

-- ---- the theorem

back : (codec : ℕ) (vs s : List ℕ) → WrittenBy codec vs s → ComesBack codec vs s
back codec vs s w =
    let again = w.is (length s) (omega arith) in
    record { read = passed_reads s vs most_blocks (written-passed vs (codec ∷ []) s (length s) most_blocks w.each again (omega (arith, w.few))); again = again }

made : (codec : ℕ) (vs s : List ℕ) → ComesBack codec vs s → WrittenBy codec vs s
made codec vs s c =
    let o = once_written codec vs s (length s) c.again in
    record { each = rows_words s most_blocks vs c.read; few = o.few; applies = o.applies; is = o.is }

pub exactly_written : ExactlyWritten
exactly_written = record {
  back = back;
  made = made;
  only = λ codec other vs ws s a b. value_same (sym (back codec vs s a).read ∙ (back other ws s b).read);
}
