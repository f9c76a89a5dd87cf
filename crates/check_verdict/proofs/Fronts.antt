-- The front that two lists share, and the first row of a reading that is not its value.
--     front_most                    it is no longer than either list
--     same_pair, fronts_paired      it is counted by pairs
--     skip_front                    values of rows that are the list's leave the first unequal row to those behind them
--     stop_front, stop_refused      a row whose value is another, or that is refused, is unequal
-- Assumes nothing.
use Rattle.std.specs.Prelude.{Some}
use Prim.Native.Nat.{ℕ, suc, ◌+◌, ◌≤◌, ◌<◌}
use mathlib.Core.Path.{◌≡◌, refl, sym, ap, ◌∙◌}
use mathlib.Core.Bool.{Bool, true, false, cond}
use mathlib.Core.List.{List, [], ◌∷◌, map}
use native.Mathlib.Nat.{add-zero, add-suc, suc-add, not-suc-le-zero, le_of_suc-le-suc}
use native.Mathlib.Numerals.{one-add}
use native.Mathlib.Omega.{arith}
use lib.Dec.{eqb}
use lib.ListN.{length, take, drop, get_or}
use Rattle.std.specs.List.{zip, prefix_len}
use Rattle.format.specs.Checking.{first_unequal}
use Rattle.format.specs.Comparing.{equal_answers}
use Rattle.format.specs.Outcome.{Outcome, Outcome.value, Outcome.refusal, pick}
use Rattle.check_verdict.specs.Walks.{same_front}

-- ---- the front

pub front_most : (xs vs : List ℕ) → (same_front xs vs ≤ length xs) × (same_front xs vs ≤ length vs)
unfolding same_front
front_most [] vs = (omega arith, omega arith)
front_most (x ∷ xs) [] = (omega arith, omega arith)
front_most (x ∷ xs) (v ∷ vs) = by (eqb x v) (front_most xs vs)
  where
    by : (t : Bool) → (same_front xs vs ≤ length xs) × (same_front xs vs ≤ length vs)
        → (pick t (suc (same_front xs vs)) 0 ≤ suc (length xs)) × (pick t (suc (same_front xs vs)) 0 ≤ suc (length vs))
    by true h = (omega (arith, h.0), omega (arith, h.1))
    by false h = (omega arith, omega arith)

-- whether a number is what a value is stored as
abbrev pub same_pair : (ℕ → ℕ) → ℕ × ℕ → Bool
same_pair f p = eqb p.0 (f p.1)

-- the front is as long as the pairs that are equal from the first on
pub fronts_paired : (f : ℕ → ℕ) (xs vs : List ℕ) → length (take (prefix_len (same_pair f) (zip xs vs)) (zip xs vs)) ≡ same_front xs (map f vs)
unfolding same_front
fronts_paired f [] vs = refl
fronts_paired f (x ∷ xs) [] = refl
fronts_paired f (x ∷ xs) (v ∷ vs) = by (eqb x (f v)) (fronts_paired f xs vs)
  where
    by : (t : Bool) → length (take (prefix_len (same_pair f) (zip xs vs)) (zip xs vs)) ≡ same_front xs (map f vs)
        → length (take (cond t (1 + prefix_len (same_pair f) (zip xs vs)) 0) ((x, v) ∷ zip xs vs)) ≡ pick t (suc (same_front xs (map f vs))) 0
    by true h = rw one-add (ap suc h)
    by false h = refl

-- ---- the first unequal row

module _ (read : ℕ → Outcome ℕ) where
  -- the values of the rows from r on
  abbrev pub Reads : (r : ℕ) (xs : List ℕ) → Type 0
  Reads r xs = (j : ℕ) → j < length xs → read (r + j) ≡ value (get_or xs j 0)

  first_reads : (r x : ℕ) (xs : List ℕ) → Reads r (x ∷ xs) → read r ≡ value x
  first_reads r x xs each = ap read (sym (add-zero r)) ∙ each 0 (omega arith)

  rest_reads : (r x : ℕ) (xs : List ℕ) → Reads r (x ∷ xs) → Reads (suc r) xs
  rest_reads r x xs each j h = ap read (suc-add r j ∙ sym (add-suc r j)) ∙ each (suc j) (omega arith)

  pub skip_front : (r : ℕ) (xs vs : List ℕ) → Reads r xs → first_unequal read r vs ≡ first_unequal read (r + same_front xs vs) (drop (same_front xs vs) vs)
  unfolding same_front first_unequal
  skip_front r [] vs each = ap (λ (k : ℕ). first_unequal read k vs) (sym (add-zero r))
  skip_front r (x ∷ xs) [] each = refl
  skip_front r (x ∷ xs) (v ∷ vs) each = by (eqb x v) refl (skip_front (suc r) xs vs (rest_reads r x xs each))
    where
      here : (t : Bool) → eqb x v ≡ t → equal_answers (read r) (value v) ≡ t
      here t e = rw (first_reads r x xs each) e

      by : (t : Bool) → eqb x v ≡ t → first_unequal read (suc r) vs ≡ first_unequal read (suc r + same_front xs vs) (drop (same_front xs vs) vs)
          → pick (equal_answers (read r) (value v)) (first_unequal read (suc r) vs) (Some r)
          ≡ first_unequal read (r + pick t (suc (same_front xs vs)) 0) (drop (pick t (suc (same_front xs vs)) 0) (v ∷ vs))
      by true e later =
          rw (here true e)
          (later ∙ ap (λ (k : ℕ). first_unequal read k (drop (same_front xs vs) vs)) (suc-add r (same_front xs vs) ∙ sym (add-suc r (same_front xs vs))))
      by false e later = ap (λ (k : ℕ). first_unequal read k (v ∷ vs)) (sym (add-zero r))

  pub stop_front : (r : ℕ) (xs vs : List ℕ) → Reads r xs → same_front xs vs < length xs → same_front xs vs < length vs
      → first_unequal read (r + same_front xs vs) (drop (same_front xs vs) vs) ≡ Some (r + same_front xs vs)
  unfolding same_front first_unequal
  stop_front r [] vs each h k = absurd (not-suc-le-zero h)
  stop_front r (x ∷ xs) [] each h k = absurd (not-suc-le-zero k)
  stop_front r (x ∷ xs) (v ∷ vs) each h k = by (eqb x v) refl (stop_front (suc r) xs vs (rest_reads r x xs each)) h k
    where
      by : (t : Bool) → eqb x v ≡ t
          → (same_front xs vs < length xs → same_front xs vs < length vs → first_unequal read (suc r + same_front xs vs) (drop (same_front xs vs) vs) ≡ Some (suc r + same_front xs vs))
          → pick t (suc (same_front xs vs)) 0 < suc (length xs) → pick t (suc (same_front xs vs)) 0 < suc (length vs)
          → first_unequal read (r + pick t (suc (same_front xs vs)) 0) (drop (pick t (suc (same_front xs vs)) 0) (v ∷ vs)) ≡ Some (r + pick t (suc (same_front xs vs)) 0)
      by true e later h k =
          rw (add-suc r (same_front xs vs), ← suc-add r (same_front xs vs)) (later (le_of_suc-le-suc h) (le_of_suc-le-suc k))
      by false e later h k = rw (add-zero, first_reads r x xs each, e) refl

  pub stop_refused : (r : ℕ) (vs : List ℕ) (number : ℕ) (also : List ℕ) → 0 < length vs → read r ≡ refusal number also → first_unequal read r vs ≡ Some r
  unfolding first_unequal
  stop_refused r [] number also h e = absurd (not-suc-le-zero h)
  stop_refused r (v ∷ vs) number also h e = rw e refl
