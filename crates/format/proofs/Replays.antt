-- Laws of replaying recorded lookups, and what a replay reports.
--     number_step, number_whole                 a number's bytes, one after another
--     rows_same, same_rows_lem                      two lists of rows are the same
--     listed_long                               as many row numbers as are asked for
--     found_exactly, exactly_found              what found_are says of a lookup
--     First, first_differs, none_differs        the first record that differs
--     FindsRecorded, all_agree                  all agree exactly when every record's lookup is exactly its recorded rows
--     differs_first                             else the first record whose lookup is not is told, and those before it agree
--     refused_exactly                           19 exactly where the recording is none
-- Assumes nothing.
use Rattle.format.specs.declared.Report.{Report}
use Rattle.std.specs.Prelude.{Option, Some, None}
use Prim.Native.Nat.{ℕ, zero, suc, ◌+◌, ◌-◌, ◌*◌, ◌≤◌, ◌<◌, min}
use mathlib.Core.Path.{◌≡◌, refl, sym, ap, ◌∙◌}
use mathlib.Core.Bool.{Bool, true, false, ◌&&◌}
use mathlib.Core.Logic.{◌↔◌, ◌⊎◌, inl, inr}
use mathlib.Core.List.{List, [], ◌∷◌}
use native.Mathlib.Nat.{eq-or-lt_of_le}
use native.Mathlib.Omega.{arith}
use lib.Dec.{leb, eqb}
use lib.ListN.{length, get_or, take, drop}
use lib.Seq.{drop-cons}
use borrow.Author.Tests.{le-leb, eqb-true, eq-eqb}
use Rattle.format.specs.declared.Recording.{Recording}
use Rattle.format.specs.Outcome.{Outcome, Outcome.value, Outcome.refusal, ◌>>◌, demand, pick}
use Rattle.format.specs.Packing.{bytes_num}
use Rattle.format.specs.Lookup.{all_read, rows_passing, within, looked_up}
use Rattle.format.specs.Replaying.{number_at, header_of, record_at, listed_from, is_recording, same_rows, are_rows, found_are, agrees, first_differing, reported, replayed}
use Rattle.format.proofs.Outcomes.{not_value, value_same}

-- ---- numbers

-- the number in n bytes at an offset, all of which are there
pub number_whole : (n : ℕ) (s : List ℕ) (at : ℕ) → at + n ≤ length s → number_at n s at ≡ bytes_num (take n (drop at s))
unfolding number_at
number_whole n s at h = rw (le-leb (at + n) (length s) h)

-- its first byte, and those behind it
pub number_step : (n : ℕ) (s : List ℕ) (at : ℕ) → at + suc n ≤ length s → number_at (suc n) s at ≡ get_or s at 0 + 256 * number_at n s (suc at)
unfolding bytes_num
number_step n s at h =
    let whole : number_at (suc n) s at ≡ bytes_num (take (suc n) (drop at s)) = number_whole (suc n) s at h in
    let rest : number_at n s (suc at) ≡ bytes_num (take n (drop (suc at) s)) = number_whole n s (suc at) (omega arith) in
    whole ∙ rw (drop-cons s at 0 (omega arith), rest) refl

-- ---- rows

pub rows_same : (xs ys : List ℕ) → same_rows xs ys ≡ true → xs ≡ ys
unfolding same_rows
rows_same [] [] e = refl
rows_same [] (y ∷ ys) e = cc
rows_same (x ∷ xs) [] e = cc
rows_same (x ∷ xs) (y ∷ ys) e = by (eqb x y) refl (λ f. rows_same xs ys f) e
  where
    by : (t : Bool) → eqb x y ≡ t → (same_rows xs ys ≡ true → xs ≡ ys) → (t && same_rows xs ys) ≡ true → (x ∷ xs) ≡ (y ∷ ys)
    by true a later e =
        let first : x ≡ y = eqb-true x y a in
        let rest : xs ≡ ys = later e in
        cc
    by false a later e = cc

pub same_rows_lem : (xs : List ℕ) → same_rows xs xs ≡ true
unfolding same_rows
same_rows_lem [] = refl
same_rows_lem (x ∷ xs) = rw (eq-eqb x x refl) (same_rows_lem xs)

pub listed_long : (h : Recording) (s : List ℕ) (j n : ℕ) → length (listed_from h s j n) ≡ n
unfolding listed_from
listed_long h s j zero = refl
listed_long h s j (suc n) = ap suc (listed_long h s (suc j) n)

-- ---- a lookup

module _ (read : ℕ → Outcome ℕ) (test : ℕ → Bool) (r n : ℕ) (recorded : List ℕ) where
  -- all rows are read, and those found are the recorded ones
  pub record Exactly : Type 0 where
    pub all : all_read read r n ≡ value tt
    pub same : rows_passing read test r n ≡ recorded

  pub found_exactly : found_are read test r n recorded ≡ true → Exactly
  unfolding found_are
  found_exactly e = by (all_read read r n) refl e
    where
      by : (o : Outcome (Unit {0})) → all_read read r n ≡ o → are_rows recorded (o >> value (rows_passing read test r n)) ≡ true → Exactly
      by (value u) a e = record { all = a; same = rows_same (rows_passing read test r n) recorded e }
      by (refusal number also) a e =
          let z : ◌≡◌ {A = ℕ} 0 1 = cc in
          absurd (omega arith)

  pub exactly_found : Exactly → found_are read test r n recorded ≡ true
  unfolding found_are
  exactly_found x = rw (x.all, x.same) (same_rows_lem recorded)

-- ---- the first that differs

module _ (agree : ℕ → Bool) where
  pub none_differs : (k n : ℕ) → ((i : ℕ) → k ≤ i → i < k + n → agree i ≡ true) → first_differing agree k n ≡ None
  unfolding first_differing
  none_differs k zero h = refl
  none_differs k (suc n) h = rw (h k (omega arith) (omega arith)) (none_differs (suc k) n (λ i low high. h i (omega arith) (omega arith)))

  pub differs_none : (k n : ℕ) → first_differing agree k n ≡ None → (i : ℕ) → k ≤ i → i < k + n → agree i ≡ true
  unfolding first_differing
  differs_none k zero e i low high = absurd (omega arith)
  differs_none k (suc n) e i low high = by (agree k) refl (λ f h. differs_none (suc k) n f i h (omega arith)) e (eq-or-lt_of_le low)
    where
      by : (t : Bool) → agree k ≡ t → (first_differing agree (suc k) n ≡ None → k < i → agree i ≡ true)
          → pick t (first_differing agree (suc k) n) (Some k) ≡ None → (k ≡ i) ⊎ (k < i) → agree i ≡ true
      by true a later e (inl is) = ap agree (sym is) ∙ a
      by true a later e (inr h) = later e h
      by false a later e c = cc

  -- record j is the first of n from k on that differs
  pub record First (k n j : ℕ) : Type 0 where
    pub from : k ≤ j
    pub to : j < k + n
    pub differs : agree j ≡ false
    pub before : (i : ℕ) → k ≤ i → i < j → agree i ≡ true

  pub first_differs : (k n j : ℕ) → first_differing agree k n ≡ Some j → First k n j
  unfolding first_differing
  first_differs k zero j e =
      let z : ◌≡◌ {A = ℕ} 0 1 = cc in
      absurd (omega arith)
  first_differs k (suc n) j e = by (agree k) refl (λ f. first_differs (suc k) n j f) e
    where
      earlier : agree k ≡ true → First (suc k) n j → (i : ℕ) → i < j → (k ≡ i) ⊎ (k < i) → agree i ≡ true
      earlier a f i high (inl is) = ap agree (sym is) ∙ a
      earlier a f i high (inr h) = f.before i h high

      by : (t : Bool) → agree k ≡ t → (first_differing agree (suc k) n ≡ Some j → First (suc k) n j)
          → pick t (first_differing agree (suc k) n) (Some k) ≡ Some j → First k (suc n) j
      by true a later e =
          let f = later e in
          record {
            from = omega (arith, f.from);
            to = omega (arith, f.to);
            differs = f.differs;
            before = λ i low high. earlier a f i high (eq-or-lt_of_le low);
          }
      by false a later e =
          let is : k ≡ j = cc in
          record { from = omega arith; to = omega arith; differs = ap agree (sym is) ∙ a; before = λ i low high. absurd (omega arith) }

-- ---- a replay

-- a lookup that found something, however much room there was, read all rows
found_only : (o : Outcome (Unit {0})) (found recorded : List ℕ) (room : ℕ) → (o >> (demand (leb (length found) room) 15 (length found ∷ []) >> value found)) ≡ value recorded
    → (o ≡ value tt) × (found ≡ recorded)
found_only (value u) found recorded room e = (refl, by (leb (length found) room) e)
  where
    by : (t : Bool) → (demand t 15 (length found ∷ []) >> value found) ≡ value recorded → found ≡ recorded
    by true e = value_same e
    by false e = absurd (not_value e)
found_only (refusal number also) found recorded room e = absurd (not_value e)

-- what a report says of the first that differs
differing_of : Outcome Report → Option ℕ
differing_of (value p) = p.differing
differing_of (refusal number also) = None

none_told : (n : ℕ) (o : Option ℕ) → differing_of (value (reported n o)) ≡ None → o ≡ None
unfolding differing_of
none_told n None e = refl
none_told n (Some k) e = cc

some_told : (n : ℕ) (o : Option ℕ) (j run : ℕ) → reported n o ≡ record { differing = Some j; run = run } → (o ≡ Some j) × (run ≡ j + 1)
some_told n None j run e =
    let z : None ≡ Some j = ap (λ (p : Report). p.differing) e in
    let y : ◌≡◌ {A = ℕ} 0 1 = cc in
    absurd (omega arith)
some_told n (Some k) j run e =
    let first : Some k ≡ Some j = ap (λ (p : Report). p.differing) e in
    let is : k ≡ j = cc in
    (first, sym (ap (λ (p : Report). p.run) e) ∙ ap (λ (i : ℕ). i + 1) is)

module _ (read : ℕ → Outcome ℕ) (rows : ℕ) (s : List ℕ) where
  -- record k's lookup, into any list that has room for its recorded rows, finds exactly these
  abbrev pub FindsRecorded : ℕ → Type 0
  FindsRecorded k =
      let h = header_of s in
      let r = record_at h s k in
      (room : ℕ) → r.many ≤ room → looked_up read rows (within r.low r.high) r.first r.end room ≡ value (listed_from h s r.place r.many)

  pub agrees_finds : (k : ℕ) → agrees read rows (header_of s) s k ≡ true → FindsRecorded k
  unfolding agrees looked_up
  agrees_finds k e room enough =
      let h = header_of s in
      let r = record_at h s k in
      let x = found_exactly read (within r.low r.high) r.first (min r.end rows - r.first) (listed_from h s r.place r.many) e in
      rw (x.all, x.same, listed_long h s r.place r.many, le-leb r.many room enough) refl

  pub finds_agrees : (k : ℕ) → FindsRecorded k → agrees read rows (header_of s) s k ≡ true
  unfolding agrees looked_up
  finds_agrees k finds =
      let h = header_of s in
      let r = record_at h s k in
      let n = min r.end rows - r.first in
      let test = within r.low r.high in
      let x = found_only (all_read read r.first n) (rows_passing read test r.first n) (listed_from h s r.place r.many) r.many (finds r.many (omega arith)) in
      exactly_found read test r.first n (listed_from h s r.place r.many) (record { all = x.0; same = x.1 })

  -- all agree exactly when every record's lookup is exactly its recorded rows
  pub all_agree : is_recording s ≡ true
      → (replayed read rows s ≡ value (record { differing = None; run = (header_of s).records })) ↔ ((k : ℕ) → k < (header_of s).records → FindsRecorded k)
  unfolding replayed differing_of
  all_agree is =
      rw is (
        (λ e k h. agrees_finds k (differs_none (agrees read rows (header_of s) s) 0 (header_of s).records (none_told _ _ (ap differing_of e)) k (omega arith) (omega arith))),
        (λ h. ap (λ (o : Option ℕ). value (reported (header_of s).records o)) (none_differs (agrees read rows (header_of s) s) 0 (header_of s).records (λ i low high. finds_agrees i (h i (omega arith))))),
      )

  -- else the first record whose lookup is not is told, with those run: it and those before it, which agree
  pub differs_first : (j run : ℕ) → replayed read rows s ≡ value (record { differing = Some j; run = run })
      → First (agrees read rows (header_of s) s) 0 (header_of s).records j × (run ≡ j + 1)
  unfolding replayed
  differs_first j run e = by (is_recording s) e
    where
      by : (t : Bool) → (demand t 19 [] >> value (reported (header_of s).records (first_differing (agrees read rows (header_of s) s) 0 (header_of s).records))) ≡ value (record { differing = Some j; run = run })
          → First (agrees read rows (header_of s) s) 0 (header_of s).records j × (run ≡ j + 1)
      by true e =
          let told = some_told (header_of s).records (first_differing (agrees read rows (header_of s) s) 0 (header_of s).records) j run (value_same e) in
          (first_differs (agrees read rows (header_of s) s) 0 (header_of s).records j told.0, told.1)
      by false e = absurd (not_value e)

  -- 19 exactly where the recording is none
  pub refused_exactly : (replayed read rows s ≡ refusal 19 []) ↔ (is_recording s ≡ false)
  unfolding replayed
  refused_exactly = ((λ e. by (is_recording s) e), (λ e. rw e))
    where
      by : (t : Bool) → (demand t 19 [] >> value (reported (header_of s).records (first_differing (agrees read rows (header_of s) s) 0 (header_of s).records))) ≡ refusal 19 [] → t ≡ false
      by true e = absurd (not_value (sym e))
      by false e = refl
