-- The line of a check, from what was taken and what was written.
--     judged_values      a verdict
--     judged_none        a file that holds no values
--     yes_only           the line is `yes` only for values that the column is passed for
-- Assumes nothing.
use Prim.Native.Nat.{ℕ}
use mathlib.Core.Path.{◌≡◌, refl, ap}
use mathlib.Core.List.{List, ◌∷◌}
use native.Mathlib.Omega.{arith}
use lib.ListN.{get_or}
use Rattle.format.specs.declared.Refusal.{Refusal}
use Rattle.format.specs.Checking.{Reason, Reason.unopened, Reason.counts, Reason.unequal, Reason.minimum, Reason.gcd, Reason.maximum, Verdict, Verdict.passed, Verdict.failed, checked}
use Rattle.format.specs.Listing.{ascii, named, named_line}
use Rattle.format.specs.Outcome.{Outcome, Outcome.value, Outcome.refusal, Wrote}
use Rattle.format.specs.Refusals.{paper, numbered}
use Rattle.text_check.specs.Given.{sheet_from, values_in}
use Rattle.text_check.specs.Verdicts.{reason_line, verdict_line, opened_here_under, line_for, judgement}

module _ (text s file : List ℕ) {n : ℕ} {old new : List ℕ} where
  pub judged_values : {vs : List ℕ} {sheet : ℕ} {v : Verdict} → values_in file ≡ value vs → sheet ≡ sheet_from text → v ≡ checked (opened_here_under sheet s) s vs
      → Wrote old 0 (verdict_line v) new n → Wrote old 0 (judgement text s file) new n
  unfolding judgement
  judged_values values under is wrote = rw (values, ← under, ← is) wrote

  pub judged_none : (q : Refusal) {number : ℕ} → values_in file ≡ numbered q → number ≡ (paper q).0
      → Wrote old 0 (named_line (ascii "values refused ") number) new n → Wrote old 0 (judgement text s file) new n
  unfolding judgement
  judged_none q none by wrote = rw (none, ← by) wrote

-- ---- what a yes says

-- the first byte of a name and a number is the name's
named_first : (c : ℕ) (name : List ℕ) (n : ℕ) → get_or (named_line (c ∷ name) n) 0 0 ≡ c
unfolding named_line named
named_first c name n = refl

-- no reason's line begins as `yes` does
reason_first : (r : Reason) → get_or (reason_line r) 0 0 ≡ 110
unfolding named_line named
reason_first (unopened number also) = refl
reason_first (counts column list) = refl
reason_first (unequal row) = refl
reason_first minimum = refl
reason_first gcd = refl
reason_first maximum = refl

passed_only : (v : Verdict) → verdict_line v ≡ ascii "yes\n" → v ≡ passed
passed_only passed e = refl
passed_only (failed r) e =
    let first : get_or (reason_line r) 0 0 ≡ 121 = ap (λ (l : List ℕ). get_or l 0 0) e in
    absurd (omega (arith, reason_first r))

pub yes_only : (text s file : List ℕ) → judgement text s file ≡ ascii "yes\n"
    → (vs : List ℕ) × (values_in file ≡ value vs) × (checked (opened_here_under (sheet_from text) s) s vs ≡ passed)
unfolding judgement
yes_only text s file e = go (values_in file) refl e
  where
    go : (o : Outcome (List ℕ)) → values_in file ≡ o → line_for o (sheet_from text) s ≡ ascii "yes\n"
        → (vs : List ℕ) × (values_in file ≡ value vs) × (checked (opened_here_under (sheet_from text) s) s vs ≡ passed)
    go (value vs) is line = (vs, is, passed_only _ line)
    go (refusal number also) is line =
        let first : get_or (named_line (ascii "values refused ") number) 0 0 ≡ 121 = ap (λ (l : List ℕ). get_or l 0 0) line in
        absurd (omega (arith, named_first 118 (ascii "alues refused ") number))
