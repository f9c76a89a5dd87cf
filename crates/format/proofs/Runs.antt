-- Laws of runs, over any reading of rows.
--     run_agree                                          readings that agree on every row of a run
--     run_long                                           a run has a value for each row
--     run-at, run_of, run_stops                          a run and its rows, one by one
--     run-joined                                         a run in two parts
--     Decoding, starts, stored, ends, stops              the invariant of a loop that stores the values of a run, over any reading
--     filled, bounded                                    how such a loop ends that refuses only 14
--     scaled_below                                       a value of a multiple up to the count has 64 bits
-- Assumes nothing.
use Prim.Native.Nat.{ℕ, zero, suc, ◌+◌, ◌*◌, ◌^◌, ◌≤◌, ◌<◌, suc-le-suc}
use mathlib.Core.Path.{◌≡◌, refl, sym, ap, ◌∙◌}
use mathlib.Core.Logic.{⊎_elim}
use mathlib.Core.List.{List, [], ◌∷◌, ◌++◌}
use native.Mathlib.Nat.{add-zero, add-suc, zero-add, suc-add, le_of_suc-le-suc, not-suc-le-zero, zero-lt-suc, eq-or-lt_of_le, mul_comm, mul-le-mul_left}
use native.Mathlib.Omega.{arith}
use lib.ListN.{length, get_or, set}
use lib.Seq.{get_or-set_same, get_or-set_other}
use borrow.Author.Tests.{lt-ltb, le-ltb}
use Rattle.format.specs.Outcome.{Outcome, Outcome.value, Outcome.refusal, ◌>>=◌}
use Rattle.format.specs.Runs.{read_run, filled_to}
use Rattle.format.proofs.Outcomes.{not_value, value_same, by_step}

-- values put before those of an outcome
as_it_is : (o : Outcome (List ℕ)) → (o >>= (λ (vs : List ℕ). value ([] ++ vs))) ≡ o
as_it_is (value vs) = refl
as_it_is (refusal number also) = refl

in_front : (o : Outcome (List ℕ)) (v : ℕ) (us : List ℕ) → ((o >>= (λ (vs : List ℕ). value (us ++ vs))) >>= (λ (ws : List ℕ). value (v ∷ ws))) ≡ (o >>= (λ (vs : List ℕ). value ((v ∷ us) ++ vs)))
in_front (value vs) v us = refl
in_front (refusal number also) v us = refl

-- a value before those of an outcome refuses nothing by itself
then : (o : Outcome (List ℕ)) (v : ℕ) {number : ℕ} {also : List ℕ} → (o >>= (λ (vs : List ℕ). value (v ∷ vs))) ≡ refusal number also → o ≡ refusal number also
then (value vs) v e = absurd (not_value (sym e))
then (refusal x y) v e = cc

-- ---- two readings

module _ (read read' : ℕ → Outcome ℕ) where
  pub run_agree : (r n : ℕ) → ((x : ℕ) → r ≤ x → x < r + n → read x ≡ read' x) → read_run read r n ≡ read_run read' r n
  unfolding read_run
  run_agree r zero h = refl
  run_agree r (suc n) h = rw (h r (omega arith) (omega arith), run_agree (suc r) n (λ x low high. h x (omega arith) (omega arith)))

module _ (read : ℕ → Outcome ℕ) where
  -- ---- a run and its rows

  pub run_long : (r n : ℕ) (vs : List ℕ) → read_run read r n ≡ value vs → length vs ≡ n
  unfolding read_run
  run_long r zero vs e = ap length (sym (value_same e))
  run_long r (suc n) vs e =
      by_step (read r) (λ (v : ℕ). read_run read (suc r) n >>= (λ (us : List ℕ). value (v ∷ us))) e
      (λ v q f. by_step (read_run read (suc r) n) (λ (us : List ℕ). value (v ∷ us)) f
      (λ us p g. ap length (sym (value_same g)) ∙ ap suc (run_long (suc r) n us p)))

  -- rows that read as the values of a list, in order
  pub run_of : (r : ℕ) (vs : List ℕ) → ((i : ℕ) → i < length vs → read (r + i) ≡ value (get_or vs i 0)) → read_run read r (length vs) ≡ value vs
  unfolding read_run
  run_of r [] h = refl
  run_of r (v ∷ vs) h =
      let first : read r ≡ value v = ap read (sym (add-zero r)) ∙ h 0 (zero-lt-suc _) in
      let rest = run_of (suc r) vs (λ (i : ℕ) (k : i < length vs). ap read (suc-add r i ∙ sym (add-suc r i)) ∙ h (suc i) (suc-le-suc k)) in
      rw (first, rest)

  -- the first refused row decides
  pub run_stops : (r i n number : ℕ) (also : List ℕ) → i < n → ((j : ℕ) → j < i → (v : ℕ) × (read (r + j) ≡ value v)) → read (r + i) ≡ refusal number also
      → read_run read r n ≡ refusal number also
  unfolding read_run
  run_stops r i zero number also h before e = absurd (not-suc-le-zero h)
  run_stops r zero (suc n) number also h before e = let first : read r ≡ refusal number also = ap read (sym (add-zero r)) ∙ e in rw first
  run_stops r (suc i) (suc n) number also h before e =
      let v = before 0 (zero-lt-suc _) in
      let first : read r ≡ value v.0 = ap read (sym (add-zero r)) ∙ v.1 in
      let rest = run_stops (suc r) i n number also (le_of_suc-le-suc h)
      (λ (j : ℕ) (k : j < i). let w = before (suc j) (suc-le-suc k) in (w.0, ap read (suc-add r j ∙ sym (add-suc r j)) ∙ w.1))
      (ap read (suc-add r i ∙ sym (add-suc r i)) ∙ e) in
      rw (first, rest)

  -- ---- a run in two parts

  -- after a first part that reads as some values
  pub run_after : (r m n : ℕ) (us : List ℕ) → read_run read r m ≡ value us → read_run read r (m + n) ≡ (read_run read (r + m) n >>= (λ (vs : List ℕ). value (us ++ vs)))
  unfolding read_run
  run_after r zero n us e = rw (zero-add n, add-zero r, ← (value_same e)) (sym (as_it_is (read_run read r n)))
  run_after r (suc m) n us e =
      by_step (read r) (λ (v : ℕ). read_run read (suc r) m >>= (λ (ws : List ℕ). value (v ∷ ws))) e
      (λ v q f. by_step (read_run read (suc r) m) (λ (ws : List ℕ). value (v ∷ ws)) f
      (λ ws p g. rw (suc-add m n, q, run_after (suc r) m n ws p, ← (value_same g), suc-add r m, add-suc r m) (in_front (read_run read (suc (r + m)) n) v ws)))

  -- after a first part that is refused
  pub run_refused : (r m n number : ℕ) (also : List ℕ) → read_run read r m ≡ refusal number also → read_run read r (m + n) ≡ refusal number also
  unfolding read_run
  run_refused r zero n number also e = absurd (not_value (sym e))
  run_refused r (suc m) n number also e = rw (suc-add m n) (first_refuses (read r) e (λ f. run_refused (suc r) m n number also f))
    where
      first_refuses : (o : Outcome ℕ) → (o >>= (λ (v : ℕ). read_run read (suc r) m >>= (λ (vs : List ℕ). value (v ∷ vs)))) ≡ refusal number also
          → (read_run read (suc r) m ≡ refusal number also → read_run read (suc r) (m + n) ≡ refusal number also)
          → (o >>= (λ (v : ℕ). read_run read (suc r) (m + n) >>= (λ (vs : List ℕ). value (v ∷ vs)))) ≡ refusal number also
      first_refuses (refusal x y) f later = cc
      first_refuses (value v) f later = rw (later (then (read_run read (suc r) m) v f))

  -- ---- a loop that stores the values of a run

  -- the list's first i entries are the values of the rows from r on
  pub record Decoding (r : ℕ) (list : List ℕ) (i : ℕ) : Type 0 where
    pub sofar : (j : ℕ) → j < i → read (r + j) ≡ value (get_or list j 0)

  pub starts : (r : ℕ) (list : List ℕ) → Decoding r list 0
  starts r list = record { sofar = λ j h. absurd (not-suc-le-zero h) }

  module _ {r : ℕ} {list : List ℕ} {i : ℕ} (d : Decoding r list i) where
    pub stored : {v : ℕ} → i < length list → read (r + i) ≡ value v → Decoding r (set list i v) (i + 1)
    stored {v} h e = record {
      sofar = λ (j : ℕ) (k : j < i + 1).
          ⊎_elim
          (λ (is : j ≡ i). rw is (e ∙ ap value (sym (get_or-set_same list i v 0 h))))
          (λ (less : j < i). d.sofar j less ∙ ap value (sym (get_or-set_other list i j v 0 (λ (q : j ≡ i). omega arith))))
          (eq-or-lt_of_le (omega arith));
    }

    pub ends : length list ≤ i → read_run read r (length list) ≡ value list
    ends h = run_of r list (λ (j : ℕ) (k : j < length list). d.sofar j (omega arith))

    pub stops : {number : ℕ} {also : List ℕ} (n : ℕ) → i < n → read (r + i) ≡ refusal number also → read_run read r n ≡ refusal number also
    stops {number} {also} n h e = run_stops r i n number also h (λ (j : ℕ) (k : j < i). (get_or list j 0, d.sofar j k)) e

    -- where only 14 is refused
    pub filled : length list ≤ i → filled_to i r list ≡ read_run read r (length list)
    filled h = rw (le-ltb i (length list) h) (sym (ends h))

    pub bounded : i < length list → read (r + i) ≡ refusal 14 ((r + i) ∷ []) → filled_to i r list ≡ read_run read r (length list)
    bounded h e = rw (lt-ltb i (length list) h) (sym (stops (length list) h e))

-- a value of a multiple up to the count has 64 bits
pub scaled_below : (low step count n : ℕ) → low + count * step < 2 ^ 64 → n ≤ count → low + step * n < 2 ^ 64
scaled_below low step count n bounds h = omega (arith, mul-le-mul_left step h, mul_comm step count)
