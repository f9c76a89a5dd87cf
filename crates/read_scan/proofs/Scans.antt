-- Loops over a plain list of values, the first being row r: the rows that pass a test. Over any test.
--     Tallying, tally_more, tally_ends                         counting them
--     Sparing, spare_more, spare_ends                          counting the others
--     Baring, bare_more, bare_ends                             none of some values passes
--     gather_starts, gather_more, gather_over, gather_ends     gathering them over the values
--     GatheredTo, part_more, part_ends                         a part of that
--     rows_below                                               they are no rows behind the last value's
-- Assumes nothing.
use Prim.Native.Nat.{ℕ, zero, suc, ◌+◌, ◌-◌, ◌/◌, ◌^◌, ◌<◌, ◌≤◌}
use mathlib.Core.Path.{◌≡◌, refl, sym, ap, ◌∙◌}
use mathlib.Core.Bool.{Bool, true, false}
use mathlib.Core.Logic.{⊎_elim}
use mathlib.Core.List.{List, [], ◌∷◌, ◌++◌, append_assoc, append-nil}
use native.Mathlib.Nat.{add-zero, add_assoc, le_refl}
use native.Mathlib.Numerals.{add-one}
use native.Mathlib.Omega.{arith}
use lib.Bits.{bit_and, and_le_l, and_le_r}
use lib.ListN.{length, take, drop, get_or, set, length-set}
use lib.Seq.{take-suc-set, take-set-le, get_or-set_other}
use Rattle.format.specs.Outcome.{pick}
use Rattle.format.specs.Word.{AllBelow}
use Rattle.format.proofs.Lists.{below_or}
use Rattle.read_chunk.specs.Rows.{rows_among}
use Rattle.read_chunk.proofs.Rows.{rows_next, rows_none}
use Rattle.read_scan.specs.Gatherings.{Bare, Gathering, Gathers}
use Rattle.read_scan.proofs.Ranges.{set_outside}

module _ (test : ℕ → Bool) where
  behind : (r i : ℕ) → r + i + 1 ≡ r + (i + 1)
  behind r i = add_assoc r i 1

  -- ---- counting

  pub record Tallying (values : List ℕ) (n i : ℕ) : Type 0 where
    pub small : n ≤ i
    pub rest : (r : ℕ) → n + length (rows_among test (r + i) (drop i values)) ≡ length (rows_among test r values)

  tally_by : (t : Bool) (n x : ℕ) (l : List ℕ) → pick t (n + 1) n + length l ≡ n + length (pick t (x ∷ l) l)
  tally_by true n x l = omega arith
  tally_by false n x l = refl

  tally_small : (t : Bool) (n i : ℕ) → n ≤ i → pick t (n + 1) n ≤ i + 1
  tally_small true n i h = omega arith
  tally_small false n i h = omega arith

  pub tally_more : {values : List ℕ} {n i m : ℕ} → Tallying values n i → i < length values → m ≡ pick (test (get_or values i 0)) (n + 1) n → Tallying values m (i + 1)
  tally_more {values} {n} {i} {m} f h e = record {
    small = rw e (tally_small (test (get_or values i 0)) n i f.small);
    rest = λ (r : ℕ).
        let l = rows_among test (r + i + 1) (drop (i + 1) values) in
        ap (λ (k : ℕ). m + length (rows_among test k (drop (i + 1) values))) (sym (behind r i))
        ∙ ap (λ (k : ℕ). k + length l) e ∙ tally_by (test (get_or values i 0)) n (r + i) l
        ∙ ap (λ (k : List ℕ). n + length k) (sym (rows_next test (r + i) values i h)) ∙ f.rest r;
  }

  pub tally_ends : {values : List ℕ} {n i : ℕ} → Tallying values n i → length values ≤ i → (r : ℕ) → n ≡ length (rows_among test r values)
  tally_ends {values} {n} {i} f h r = sym (add-zero n) ∙ ap (λ (l : List ℕ). n + length l) (sym (rows_none test (r + i) values i h)) ∙ f.rest r

  -- ---- counting the others

  pub record Sparing (values : List ℕ) (n i : ℕ) : Type 0 where
    pub kept : ℕ
    pub sum : n + kept ≡ i
    pub most : i ≤ length values
    pub tally : Tallying values kept i

  spare_by : (t : Bool) (n kept i : ℕ) → n + kept ≡ i → pick t n (n + 1) + pick t (kept + 1) kept ≡ i + 1
  spare_by true n kept i h = omega arith
  spare_by false n kept i h = omega arith

  pub spare_more : {values : List ℕ} {n i m : ℕ} → Sparing values n i → i < length values → m ≡ pick (test (get_or values i 0)) n (n + 1) → Sparing values m (i + 1)
  spare_more {values} {n} {i} {m} f h e = record {
    kept = pick (test (get_or values i 0)) (f.kept + 1) f.kept;
    sum = rw e (spare_by (test (get_or values i 0)) n f.kept i f.sum);
    most = omega arith;
    tally = tally_more f.tally h refl;
  }

  pub spare_ends : {values : List ℕ} {n i : ℕ} → Sparing values n i → length values ≤ i → (r : ℕ) → length values - n ≡ length (rows_among test r values)
  spare_ends {values} {n} {i} f h r = let k : length values - n ≡ f.kept = omega (arith, f.sum, f.most) in k ∙ tally_ends f.tally h r

  -- ---- none of some values passes

  -- where a word has the top bit, no value so far passes
  pub record Baring (values : List ℕ) (from seen i : ℕ) : Type 0 where
    pub since : from ≤ i
    pub bare : 2 ^ 63 ≤ seen → Bare test from i values

  pub bare_more : {values : List ℕ} {from seen i : ℕ} (x : ℕ) → Baring values from seen i → x / 2 ^ 63 ≡ pick (test (get_or values i 0)) 0 1 → Baring values from (bit_and seen x) (i + 1)
  bare_more {values} {from} {seen} {i} x f e = record {
    since = omega (arith, f.since);
    bare = λ set j low high.
        ⊎_elim
        (λ (before : j < i). f.bare (omega (arith, and_le_l seen x)) j low before)
        (λ (here : i ≤ j).
        let same : j ≡ i = omega arith in
        ap (λ (k : ℕ). test (get_or values k 0)) same ∙ set_outside (test (get_or values i 0)) x e (omega (arith, and_le_r seen x)))
        (below_or j i);
  }

  pub bare_ends : {values : List ℕ} {from seen i to : ℕ} → Baring values from seen i → 2 ^ 63 ≤ seen → to ≤ i → Bare test from to values
  bare_ends f set h = λ j low high. f.bare set j low (omega arith)

  -- ---- gathering in the values' own place

  pub gather_starts : (values : List ℕ) (row : ℕ) → Gathering test values row values 0 0
  gather_starts values row = record { small = omega arith; most = omega arith; long = refl; unread = λ j h. refl; rest = ap (λ (k : ℕ). rows_among test k values) (add-zero row) }

  -- a row is put behind those kept, and stays if it passes the test
  gather_by : (t : Bool) (kept : List ℕ) (n x : ℕ) (l : List ℕ) → n < length kept → take (pick t (n + 1) n) (set kept n x) ++ l ≡ take n kept ++ pick t (x ∷ l) l
  gather_by true kept n x l h =
      ap (λ (k : ℕ). take k (set kept n x) ++ l) (add-one n)
      ∙ ap (λ (k : List ℕ). k ++ l) (take-suc-set kept n x h)
      ∙ append_assoc (take n kept) (x ∷ []) l
  gather_by false kept n x l h = ap (λ (k : List ℕ). k ++ l) (take-set-le n kept n x (le_refl n))

  pub gather_more : {values : List ℕ} {row : ℕ} {list : List ℕ} {n i m : ℕ} → Gathering test values row list n i → i < length list
      → m ≡ pick (test (get_or list i 0)) (n + 1) n → Gathering test values row (set list n (row + i)) m (i + 1)
  gather_more {values} {row} {list} {n} {i} {m} f h e =
      let t = test (get_or values i 0) in
      let l = rows_among test (row + i + 1) (drop (i + 1) values) in
      let told : m ≡ pick t (n + 1) n = e ∙ ap (λ (x : ℕ). pick (test x) (n + 1) n) (f.unread i (le_refl i)) in
      record {
        small = rw told (tally_small t n i f.small);
        most = omega (arith, f.long);
        long = length-set list n (row + i) ∙ f.long;
        unread = λ j later. get_or-set_other list n j (row + i) 0 (λ (same : j ≡ n). absurd (omega (arith, f.small))) ∙ f.unread j (omega arith);
        rest =
            ap (λ (k : ℕ). take m (set list n (row + i)) ++ rows_among test k (drop (i + 1) values)) (sym (behind row i))
            ∙ ap (λ (k : ℕ). take k (set list n (row + i)) ++ l) told
            ∙ gather_by t list n (row + i) l (omega (arith, f.small))
            ∙ ap (λ (k : List ℕ). take n list ++ k) (sym (rows_next test (row + i) values i (omega (arith, f.long)))) ∙ f.rest;
      }

  -- a value that does not pass is passed over
  gather_past : {values : List ℕ} {row : ℕ} {list : List ℕ} {n i : ℕ} → Gathering test values row list n i → i < length values → test (get_or values i 0) ≡ false → Gathering test values row list n (i + 1)
  gather_past {values} {row} {list} {n} {i} f h out =
      let l = rows_among test (row + i + 1) (drop (i + 1) values) in
      record {
        small = omega (arith, f.small);
        most = omega arith;
        long = f.long;
        unread = λ j later. f.unread j (omega arith);
        rest =
            ap (λ (k : ℕ). take n list ++ rows_among test k (drop (i + 1) values)) (sym (behind row i))
            ∙ ap (λ (k : List ℕ). take n list ++ k) (sym (rows_next test (row + i) values i h ∙ ap (λ (t : Bool). pick t ((row + i) ∷ l) l) out)) ∙ f.rest;
      }

  -- so are several
  pub gather_over : {values : List ℕ} {row : ℕ} {list : List ℕ} {n i : ℕ} (k : ℕ) → Gathering test values row list n i → i + k ≤ length list → Bare test i (i + k) list → Gathering test values row list n (i + k)
  gather_over {values} {row} {list} {n} {i} zero f h bare = rw (add-zero i) f
  gather_over {values} {row} {list} {n} {i} (suc k) f h bare =
      let far : i + 1 + k ≡ i + suc k = omega arith in
      let past : Gathering test values row list n (i + 1) = gather_past f (omega (arith, f.long)) (ap test (sym (f.unread i (le_refl i))) ∙ bare i (le_refl i) (omega arith)) in
      let rest : Gathering test values row list n (i + 1 + k) = gather_over {i = i + 1} k past (omega arith) (λ j low high. bare j (omega arith) (omega arith)) in
      rw far at rest

  -- a part of it, by a loop over the values
  pub record GatheredTo (row n from : ℕ) (old new : List ℕ) (m i : ℕ) : Type 0 where
    pub small : m ≤ i
    pub so_far : Gathers test row n from m i old new

  pub part_more : {row n from : ℕ} {old new : List ℕ} {m i k : ℕ} → GatheredTo row n from old new m i → i < length new → k ≡ pick (test (get_or new i 0)) (m + 1) m
      → GatheredTo row n from old (set new m (row + i)) k (i + 1)
  part_more {row} {n} {from} {old} {new} {m} {i} {k} f h e = record {
    small = rw e (tally_small (test (get_or new i 0)) m i f.small);
    so_far = λ values g. gather_more (f.so_far values g) h e;
  }

  pub part_ends : {row n from : ℕ} {old new : List ℕ} {m i : ℕ} (to : ℕ) → GatheredTo row n from old new m i → i ≤ to → to ≤ i → Gathers test row n from m to old new
  part_ends {row} {n} {from} {old} {new} {m} {i} to f h g = let same : i ≡ to = omega arith in let all = f.so_far in rw same at all

  pub gather_ends : {values : List ℕ} {row : ℕ} {list : List ℕ} {n i : ℕ} → Gathering test values row list n i → length values ≤ i → take n list ≡ rows_among test row values
  gather_ends {values} {row} {list} {n} {i} f h =
      sym (append-nil (take n list)) ∙ ap (λ (l : List ℕ). take n list ++ l) (sym (rows_none test (row + i) values i h)) ∙ f.rest

  -- ---- what is gathered

  below_by : (t : Bool) (r bound : ℕ) (rest : List ℕ) → r < bound → AllBelow bound rest → AllBelow bound (pick t (r ∷ rest) rest)
  below_by true r bound rest h f zero j = h
  below_by true r bound rest h f (suc i) j = f i (omega arith)
  below_by false r bound rest h f i j = f i j

  pub rows_below : (r : ℕ) (vs : List ℕ) (bound : ℕ) → r + length vs ≤ bound → AllBelow bound (rows_among test r vs)
  unfolding rows_among
  rows_below r [] bound h = λ i j. absurd (omega arith)
  rows_below r (v ∷ vs) bound h = below_by (test v) r bound (rows_among test (r + 1) vs) (omega arith) (rows_below (r + 1) vs bound (omega arith))
