-- What is left of a lookup's definitions behind a chunk of its rows that was decoded. Over any reading and any test.
--     all_behind, all_stops, all_none         nothing is refused behind it; the chunk is refused; no rows
--     rows_behind, rows_none                  the rows that pass
-- Assumes nothing.
use Prim.Native.Nat.{ℕ, zero, suc, ◌+◌, ◌-◌, ◌≤◌}
use mathlib.Core.Path.{◌≡◌, sym, ap, ◌∙◌}
use mathlib.Core.Bool.{Bool}
use mathlib.Core.List.{List, [], ◌++◌}
use native.Mathlib.Nat.{add-zero, zero-add, suc-add, add-suc}
use native.Mathlib.Omega.{arith}
use Rattle.format.specs.Lookup.{passes, all_read, rows_passing}
use Rattle.format.specs.Outcome.{Outcome, Outcome.value, Outcome.refusal, ◌>>=◌}
use Rattle.format.specs.Runs.{read_run}
use Rattle.format.proofs.Outcomes.{not_value, by_step}
use Rattle.read_chunk.specs.Rows.{rows_among}
use Rattle.read_chunk.proofs.Rows.{picked, all_run, all_refused, rows_run}

-- the rows up to an end, cut in two
cut : (r end k : ℕ) → r + k ≤ end → end - r ≡ k + (end - (r + k))
cut r end k h = omega arith

module _ (read : ℕ → Outcome ℕ) where
  all_joined : (r m n : ℕ) → all_read read r m ≡ value tt → all_read read r (m + n) ≡ all_read read (r + m) n
  unfolding all_read
  all_joined r zero n e = rw (zero-add n, add-zero r)
  all_joined r (suc m) n e =
      by_step (read r) (λ (v : ℕ). all_read read (suc r) m) e
      (λ v q f. rw (suc-add m n, q, all_joined (suc r) m n f, suc-add r m, add-suc r m))

  stops_first : (o : Outcome ℕ) (p q : Outcome (Unit {0})) (number : ℕ) (also : List ℕ) → (p ≡ refusal number also → q ≡ refusal number also) → (o >>= (λ (v : ℕ). p)) ≡ refusal number also
      → (o >>= (λ (v : ℕ). q)) ≡ refusal number also
  stops_first (value v) p q number also later e = later e
  stops_first (refusal x y) p q number also later e = cc

  all_cut : (r m n number : ℕ) (also : List ℕ) → all_read read r m ≡ refusal number also → all_read read r (m + n) ≡ refusal number also
  unfolding all_read
  all_cut r zero n number also e = absurd (not_value (sym e))
  all_cut r (suc m) n number also e = rw (suc-add m n) (stops_first (read r) (all_read read (suc r) m) (all_read read (suc r) (m + n)) number also (λ f. all_cut (suc r) m n number also f) e)

  -- behind k rows that read as some values
  pub all_behind : (r end k : ℕ) (vs : List ℕ) → r + k ≤ end → read_run read r k ≡ value vs → all_read read r (end - r) ≡ all_read read (r + k) (end - (r + k))
  all_behind r end k vs h e = ap (all_read read r) (cut r end k h) ∙ all_joined r k (end - (r + k)) (all_run read r k vs e)

  -- behind k rows of which one is refused
  pub all_stops : (r end k number : ℕ) (also : List ℕ) → r + k ≤ end → read_run read r k ≡ refusal number also → all_read read r (end - r) ≡ refusal number also
  all_stops r end k number also h e = ap (all_read read r) (cut r end k h) ∙ all_cut r k (end - (r + k)) number also (all_refused read r k number also e)

  pub all_none : (r end : ℕ) → end ≤ r → all_read read r (end - r) ≡ value tt
  unfolding all_read
  all_none r end h = let none : end - r ≡ 0 = omega arith in rw none

  module _ (test : ℕ → Bool) where
    rows_joined : (r m n : ℕ) → rows_passing read test r (m + n) ≡ rows_passing read test r m ++ rows_passing read test (r + m) n
    unfolding rows_passing
    rows_joined r zero n = rw (zero-add n, add-zero r)
    rows_joined r (suc m) n = rw (suc-add m n, rows_joined (suc r) m n, suc-add r m, add-suc r m) (picked (passes test (read r)) r (rows_passing read test (suc r) m) (rows_passing read test (suc (r + m)) n))

    pub rows_behind : (r end k : ℕ) (vs : List ℕ) → r + k ≤ end → read_run read r k ≡ value vs
        → rows_passing read test r (end - r) ≡ rows_among test r vs ++ rows_passing read test (r + k) (end - (r + k))
    rows_behind r end k vs h e = ap (rows_passing read test r) (cut r end k h) ∙ rows_joined r k (end - (r + k)) ∙ ap (λ (l : List ℕ). l ++ rows_passing read test (r + k) (end - (r + k))) (rows_run read test r k vs e)

    pub rows_none : (r end : ℕ) → end ≤ r → rows_passing read test r (end - r) ≡ []
    unfolding rows_passing
    rows_none r end h = let none : end - r ≡ 0 = omega arith in rw none
