-- The rows of a chunk that pass a test, by its values; and what decoding says of the definitions of a lookup. Over any reading and any test.
--     rows_few                                how many they are at most
--     rows_next, rows_none                    the first of some values, and none
--     picked, rows_joined                     those of two parts
--     all_run, all_refused, rows_run          nothing is refused where the rows were decoded; the rows that pass
-- Assumes nothing.
use Prim.Native.Nat.{ℕ, zero, suc, ◌+◌, ◌<◌, ◌≤◌}
use mathlib.Core.Path.{◌≡◌, refl, sym, ap}
use mathlib.Core.Bool.{Bool, true, false}
use mathlib.Core.List.{List, [], ◌∷◌, ◌++◌}
use native.Mathlib.Nat.{add-zero}
use native.Mathlib.Numerals.{add-one}
use native.Mathlib.Omega.{arith}
use lib.ListN.{length, drop, get_or, drop_of_length-le}
use lib.Seq.{drop-cons}
use Rattle.format.specs.Lookup.{all_read, rows_passing}
use Rattle.format.specs.Outcome.{Outcome, Outcome.value, Outcome.refusal, ◌>>=◌, pick}
use Rattle.format.specs.Runs.{read_run}
use Rattle.format.proofs.Outcomes.{not_value, value_same, by_step}
use Rattle.read_chunk.specs.Rows.{rows_among}

pub picked : (t : Bool) (r : ℕ) (xs ys : List ℕ) → pick t (r ∷ (xs ++ ys)) (xs ++ ys) ≡ pick t (r ∷ xs) xs ++ ys
picked true r xs ys = refl
picked false r xs ys = refl

pub rows_joined : (test : ℕ → Bool) (r : ℕ) (us vs : List ℕ) → rows_among test r (us ++ vs) ≡ rows_among test r us ++ rows_among test (r + length us) vs
unfolding rows_among
rows_joined test r [] vs = ap (λ (x : ℕ). rows_among test x vs) (sym (add-zero r))
rows_joined test r (u ∷ us) vs =
    let far : r + 1 + length us ≡ r + suc (length us) = omega arith in
    rw (rows_joined test (r + 1) us vs, far) (picked (test u) r (rows_among test (r + 1) us) (rows_among test (r + suc (length us)) vs))

module _ (test : ℕ → Bool) where
  -- at most one row a value
  few : (t : Bool) (r : ℕ) (rest : List ℕ) (n : ℕ) → length rest ≤ n → length (pick t (r ∷ rest) rest) ≤ suc n
  few true r rest n h = omega arith
  few false r rest n h = omega arith

  pub rows_few : (r : ℕ) (vs : List ℕ) → length (rows_among test r vs) ≤ length vs
  unfolding rows_among
  rows_few r [] = omega arith
  rows_few r (v ∷ vs) = few (test v) r (rows_among test (r + 1) vs) (length vs) (rows_few (r + 1) vs)

  pub rows_next : (r : ℕ) (vs : List ℕ) (i : ℕ) → i < length vs
      → rows_among test r (drop i vs) ≡ pick (test (get_or vs i 0)) (r ∷ rows_among test (r + 1) (drop (i + 1) vs)) (rows_among test (r + 1) (drop (i + 1) vs))
  unfolding rows_among
  rows_next r vs i h = rw (drop-cons vs i 0 h, add-one i)

  pub rows_none : (r : ℕ) (vs : List ℕ) (i : ℕ) → length vs ≤ i → rows_among test r (drop i vs) ≡ []
  unfolding rows_among
  rows_none r vs i h = rw (drop_of_length-le vs h)

module _ (read : ℕ → Outcome ℕ) where
  pub all_run : (r n : ℕ) (vs : List ℕ) → read_run read r n ≡ value vs → all_read read r n ≡ value tt
  unfolding read_run all_read
  all_run r zero vs e = refl
  all_run r (suc n) vs e =
      by_step (read r) (λ (v : ℕ). read_run read (suc r) n >>= (λ (us : List ℕ). value (v ∷ us))) e
      (λ v q f. by_step (read_run read (suc r) n) (λ (us : List ℕ). value (v ∷ us)) f
      (λ us p g. rw (q, all_run (suc r) n us p)))

  -- what a value before the others does to a refusal
  passed_on : (o : Outcome (List ℕ)) (v number : ℕ) (also : List ℕ) → (o >>= (λ (us : List ℕ). value (v ∷ us))) ≡ refusal number also → o ≡ refusal number also
  passed_on (value us) v number also e = absurd (not_value (sym e))
  passed_on (refusal x y) v number also e = cc

  first_or : (o : Outcome ℕ) (p : Outcome (List ℕ)) (q : Outcome (Unit {0})) (number : ℕ) (also : List ℕ) → (p ≡ refusal number also → q ≡ refusal number also)
      → (o >>= (λ (v : ℕ). p >>= (λ (us : List ℕ). value (v ∷ us)))) ≡ refusal number also → (o >>= (λ (v : ℕ). q)) ≡ refusal number also
  first_or (value v) p q number also later e = later (passed_on p v number also e)
  first_or (refusal x y) p q number also later e = cc

  pub all_refused : (r n number : ℕ) (also : List ℕ) → read_run read r n ≡ refusal number also → all_read read r n ≡ refusal number also
  unfolding read_run all_read
  all_refused r zero number also e = absurd (not_value (sym e))
  all_refused r (suc n) number also e = first_or (read r) (read_run read (suc r) n) (all_read read (suc r) n) number also (λ f. all_refused (suc r) n number also f) e

  module _ (test : ℕ → Bool) where
    pub rows_run : (r n : ℕ) (vs : List ℕ) → read_run read r n ≡ value vs → rows_passing read test r n ≡ rows_among test r vs
    unfolding read_run rows_passing rows_among
    rows_run r zero vs e = rw (← (value_same e))
    rows_run r (suc n) vs e =
        by_step (read r) (λ (v : ℕ). read_run read (suc r) n >>= (λ (us : List ℕ). value (v ∷ us))) e
        (λ v q f. by_step (read_run read (suc r) n) (λ (us : List ℕ). value (v ∷ us)) f
        (λ us p g. rw (q, rows_run (suc r) n us p, ← (value_same g), add-one)))
