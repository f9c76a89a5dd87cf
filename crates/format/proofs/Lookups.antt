-- Laws of looking rows up: two readings that agree look up the same, and what a lookup finds.
--     all_agree, passing_agree, looked_agree             readings that agree on every row of a run
--     Ascending, ascends                                 rows are found ascending
--     Asked, found_asked, asked_found, exactly           exactly the rows of the run whose value passes the test are found
--     within_both                                        the test of a value range
--     looked_up_lem                                          a lookup in a list of values refuses only 15
-- Assumes nothing.
use mathlib.Core.Path.{◌≡◌, refl, sym, ◌∙◌}
use mathlib.Core.Bool.{Bool, true, false, ◌&&◌}
use mathlib.Core.Logic.{◌↔◌, ◌⊎◌, inl, inr, ⊎_elim}
use mathlib.Core.List.Memᴰ
use mathlib.Core.List.{List, [], ◌∷◌, Memᴰ}
use Prim.Native.Nat.{ℕ, zero, suc, ◌+◌, ◌-◌, ◌≤◌, ◌<◌, min}
use native.Mathlib.Nat.{eq-or-lt_of_le, le_refl, le_trans}
use native.Mathlib.Omega.{arith}
use lib.Dec.{leb}
use lib.ListN.{length}
use borrow.Author.Tests.{leb-true}
use Rattle.format.specs.Outcome.{Outcome, Outcome.value, ◌>>◌, demand, pick}
use Rattle.format.specs.Lookup.{all_read, rows_passing, passes, looked_up, within}
use Rattle.format.specs.Demands.{reads_as}

-- ---- two readings

module _ (read read' : ℕ → Outcome ℕ) where
  -- readings that agree on the rows from r up to a bound
  abbrev SameReads : ℕ → ℕ → Type 0
  SameReads r end = (x : ℕ) → r ≤ x → x < end → read x ≡ read' x

  reads_later : (r n : ℕ) → SameReads r (r + suc n) → SameReads (suc r) (suc r + n)
  reads_later r n h x low high = h x (omega arith) (omega arith)

  pub all_agree : (r n : ℕ) → SameReads r (r + n) → all_read read r n ≡ all_read read' r n
  unfolding all_read
  all_agree r zero h = refl
  all_agree r (suc n) h = rw (h r (omega arith) (omega arith), all_agree (suc r) n (reads_later r n h))

  pub passing_agree : (test : ℕ → Bool) (r n : ℕ) → SameReads r (r + n) → rows_passing read test r n ≡ rows_passing read' test r n
  unfolding rows_passing
  passing_agree test r zero h = refl
  passing_agree test r (suc n) h = rw (h r (omega arith) (omega arith), passing_agree test (suc r) n (reads_later r n h))

  -- so lookups over columns of as many rows find the same, and refuse the same
  pub looked_agree : (rows : ℕ) (test : ℕ → Bool) (first end room : ℕ) → SameReads 0 rows → looked_up read rows test first end room ≡ looked_up read' rows test first end room
  unfolding looked_up
  looked_agree rows test first end room h =
      let n = min end rows - first in
      let run : SameReads first (first + n) = λ x p q. h x (omega arith) (omega arith) in
      rw (all_agree first n run, passing_agree test first n run)

-- ---- the rows found, over any reading and any test

-- each row is above the one before it, and the first is at least b
pub data Ascending : ℕ → List ℕ → Type 0 where
  none : (b : ℕ) → Ascending b []
  next : {b r : ℕ} {rs : List ℕ} → b ≤ r → Ascending (suc r) rs → Ascending b (r ∷ rs)

-- a lower bound serves too
lower : {b c : ℕ} {rs : List ℕ} → b ≤ c → Ascending c rs → Ascending b rs
lower {b} h (none c) = none b
lower h (next k a) = next (le_trans h k) a

module _ (read : ℕ → Outcome ℕ) (test : ℕ → Bool) where
  -- the rows found among n rows from r on
  abbrev found : ℕ → ℕ → List ℕ
  found r n = rows_passing read test r n

  -- whether a row is to be found
  abbrev lies : ℕ → Bool
  lies x = passes test (read x)

  -- a row of the run that reads as a value which passes the test
  pub record Asked (r n x : ℕ) : Type 0 where
    pub from : r ≤ x
    pub to : x < r + n
    pub passed : passes test (read x) ≡ true

  ascends_on : (t : Bool) (r : ℕ) (rs : List ℕ) → Ascending (suc r) rs → Ascending r (pick t (r ∷ rs) rs)
  ascends_on true r rs a = next (le_refl r) a
  ascends_on false r rs a = lower (omega arith) a

  pub ascends : (r n : ℕ) → Ascending r (found r n)
  unfolding rows_passing
  ascends r zero = none r
  ascends r (suc n) = ascends_on (lies r) r (found (suc r) n) (ascends (suc r) n)

  asked_later : {r n x : ℕ} → Asked (suc r) n x → Asked r (suc n) x
  asked_later a = record { from = omega (arith, a.from); to = omega (arith, a.to); passed = a.passed }

  is_asked : (r n x : ℕ) (t : Bool) → lies r ≡ t → (Memᴰ x (found (suc r) n) → Asked (suc r) n x)
      → Memᴰ x (pick t (r ∷ found (suc r) n) (found (suc r) n)) → Asked r (suc n) x
  is_asked r n x true e rest m =
      ⊎_elim
      (λ (is : x ≡ r). rw is (record { from = omega arith; to = omega arith; passed = e }))
      (λ k. asked_later (rest k)) (Memᴰ.cases_cons m)
  is_asked r n x false e rest m = asked_later (rest m)

  pub found_asked : (r n x : ℕ) → Memᴰ x (found r n) → Asked r n x
  unfolding rows_passing
  found_asked r zero x m = absurd (Memᴰ.not-nil m)
  found_asked r (suc n) x m = is_asked r n x (lies r) refl (found_asked (suc r) n x) m

  is_found : (r n x : ℕ) (t : Bool) → lies r ≡ t → Asked r (suc n) x → (Asked (suc r) n x → Memᴰ x (found (suc r) n))
      → (r ≡ x) ⊎ (r < x) → Memᴰ x (pick t (r ∷ found (suc r) n) (found (suc r) n))
  is_found r n x true e a rest (inl is) = Memᴰ.head (sym is)
  is_found r n x false e a rest (inl is) =
      let z : false ≡ true = sym e ∙ rw is a.passed in
      let y : ◌≡◌ {A = ℕ} 0 1 = cc in
      absurd (omega arith)
  is_found r n x true e a rest (inr h) = Memᴰ.tail (rest (record { from = h; to = omega (arith, a.to); passed = a.passed }))
  is_found r n x false e a rest (inr h) = rest (record { from = h; to = omega (arith, a.to); passed = a.passed })

  pub asked_found : (r n x : ℕ) → Asked r n x → Memᴰ x (found r n)
  unfolding rows_passing
  asked_found r zero x a = absurd (omega (arith, a.from, a.to))
  asked_found r (suc n) x a = is_found r n x (lies r) refl a (asked_found (suc r) n x) (eq-or-lt_of_le a.from)

  -- exactly the rows of the run whose value passes the test are found
  pub exactly : (r n x : ℕ) → Memᴰ x (found r n) ↔ Asked r n x
  exactly r n x = (found_asked r n x, asked_found r n x)

-- ---- a value range

module _ (low high v : ℕ) where
  -- a value passes its test exactly if it lies from low to high
  pub within_both : within low high v ≡ true → (low ≤ v) × (v ≤ high)
  within_both e = go (leb low v) refl (leb v high) refl e
    where
      go : (s : Bool) → leb low v ≡ s → (t : Bool) → leb v high ≡ t → (s && t) ≡ true → (low ≤ v) × (v ≤ high)
      go true a true b e = (leb-true _ _ a, leb-true _ _ b)
      go true a false b e = let z : ◌≡◌ {A = ℕ} 0 1 = cc in absurd (omega arith)
      go false a t b e = let z : ◌≡◌ {A = ℕ} 0 1 = cc in absurd (omega arith)

-- ---- a lookup in a list of values

module _ (vs : List ℕ) (test : ℕ → Bool) where
  -- the rows that it finds among n rows from r on
  abbrev pub found_in : ℕ → ℕ → List ℕ
  found_in r n = rows_passing (reads_as vs) test r n

  all_pass : (r n : ℕ) → all_read (reads_as vs) r n ≡ value tt
  unfolding all_read
  all_pass r zero = refl
  all_pass r (suc n) = all_pass (suc r) n

  -- it tells the rows found, or how many where the list for them is too short
  pub looked_up_lem : (first end room : ℕ)
      → looked_up (reads_as vs) (length vs) test first end room
      ≡ (demand (leb (length (found_in first (min end (length vs) - first))) room) 15 (length (found_in first (min end (length vs) - first)) ∷ [])
      >> value (found_in first (min end (length vs) - first)))
  unfolding looked_up
  looked_up_lem first end room = rw (all_pass first (min end (length vs) - first))
