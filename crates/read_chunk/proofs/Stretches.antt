-- Rows up to the first that reading refuses, over any reading.
--     stretch_agree, ending_agree          readings that agree on every row
--     run_stretch                          a run of which no row is refused
--     stretch_most                         no more values than rows
--     stretch_value, -refused, -whole      what a row answers that is counted; the row behind those
--     Storing, storing_starts, -more       the invariant of the loop that stores row by row
--     storing_whole, -stopped              how it ends
--     stretch_front                        stored into the front of a list that has more entries
--     copied_whole                         a chunk that was decoded as a whole
--     stretch_by, stretch_for              another reading that agrees; as many rows, said otherwise
-- Assumes nothing.
use Rattle.std.specs.Prelude.{Result, Ok, Err}
use Prim.Native.Nat.{ℕ, zero, suc, ◌+◌, ◌-◌, ◌≤◌, ◌<◌}
use mathlib.Core.Path.{◌≡◌, refl, sym, ap, ◌∙◌}
use mathlib.Core.List.{List, [], ◌∷◌, ◌++◌}
use native.Mathlib.Nat.{add-zero, add-suc, suc-add, not-suc-le-zero, le_of_suc-le-suc}
use native.Mathlib.Numerals.{add-one}
use native.Mathlib.Omega.{arith}
use lib.ListN.{length, take, drop, get_or, set, length-set}
use lib.Seq.{sets}
use Rattle.std.proofs.lemmas.List.{set-append_left, take-append-drop, length-take-le}
use Rattle.format.specs.declared.Refusal.{Refusal}
use Rattle.format.specs.Outcome.{Outcome, Outcome.value, Outcome.refusal, ◌>>=◌}
use Rattle.format.specs.Refusals.{numbered}
use Rattle.format.specs.Runs.{read_run}
use Rattle.format.proofs.Outcomes.{value_same, by_step}
use Rattle.read_chunk.specs.Stretch.{leading, stretch, ending, StretchAs}

-- values stored in the first part of a list
front_sets : (vs xs ys : List ℕ) (i : ℕ) → i + length vs ≤ length xs → sets (xs ++ ys) i vs ≡ sets xs i vs ++ ys
front_sets [] xs ys i h = refl
front_sets (v ∷ vs) xs ys i h =
    ap (λ (l : List ℕ). sets l (suc i) vs) (set-append_left xs ys i v (omega arith)) ∙ front_sets vs (set xs i v) ys (suc i) (omega (arith, length-set xs i v))

module _ (read read' : ℕ → Outcome ℕ) where
  pub stretch_agree : (r n : ℕ) → ((x : ℕ) → r ≤ x → x < r + n → read x ≡ read' x) → stretch read r n ≡ stretch read' r n
  unfolding stretch
  stretch_agree r zero h = refl
  stretch_agree r (suc n) h = rw (h r (omega arith) (omega arith), stretch_agree (suc r) n (λ x low high. h x (omega arith) (omega arith)))

  pub ending_agree : (r n : ℕ) → ((x : ℕ) → r ≤ x → x < r + n → read x ≡ read' x) → ending read r n ≡ ending read' r n
  unfolding ending
  ending_agree r zero h = refl
  ending_agree r (suc n) h = rw (h r (omega arith) (omega arith), ending_agree (suc r) n (λ x low high. h x (omega arith) (omega arith)))

module _ (read : ℕ → Outcome ℕ) where
  -- ---- no row is refused

  pub run_stretch : (r n : ℕ) (vs : List ℕ) → read_run read r n ≡ value vs → (stretch read r n ≡ vs) × (ending read r n ≡ value tt)
  unfolding read_run stretch ending
  run_stretch r zero vs e = (value_same e, refl)
  run_stretch r (suc n) vs e =
      by_step (read r) (λ (v : ℕ). read_run read (suc r) n >>= (λ (us : List ℕ). value (v ∷ us))) e
      (λ v q f. by_step (read_run read (suc r) n) (λ (us : List ℕ). value (v ∷ us)) f
      (λ us p g. let rest = run_stretch (suc r) n us p in rw q (ap (λ (l : List ℕ). v ∷ l) rest.0 ∙ value_same g, rest.1)))

  -- ---- its rows

  pub stretch_most : (r n : ℕ) → length (stretch read r n) ≤ n
  unfolding stretch
  stretch_most r zero = omega arith
  stretch_most r (suc n) = go (read r) (stretch_most (suc r) n)
    where
      go : (o : Outcome ℕ) → length (stretch read (suc r) n) ≤ n → length (leading o (stretch read (suc r) n)) ≤ suc n
      go (value v) h = omega arith
      go (refusal number also) h = omega arith

  pub stretch_value : (r n j : ℕ) → j < length (stretch read r n) → read (r + j) ≡ value (get_or (stretch read r n) j 0)
  unfolding stretch
  stretch_value r zero j h = absurd (not-suc-le-zero h)
  stretch_value r (suc n) j h = go (read r) refl j h (stretch_value (suc r) n)
    where
      go : (o : Outcome ℕ) → read r ≡ o → (j : ℕ) → j < length (leading o (stretch read (suc r) n))
          → ((i : ℕ) → i < length (stretch read (suc r) n) → read (suc r + i) ≡ value (get_or (stretch read (suc r) n) i 0))
          → read (r + j) ≡ value (get_or (leading o (stretch read (suc r) n)) j 0)
      go (refusal number also) e j h rest = absurd (not-suc-le-zero h)
      go (value v) e zero h rest = ap read (add-zero r) ∙ e
      go (value v) e (suc j) h rest = ap read (add-suc r j ∙ sym (suc-add r j)) ∙ rest j (le_of_suc-le-suc h)

  -- ---- the first row

  next_values : (r n v : ℕ) → read r ≡ value v → stretch read r (suc n) ≡ v ∷ stretch read (r + 1) n
  unfolding stretch
  next_values r n v e = rw (add-one, e)

  next_ending : (r n v : ℕ) → read r ≡ value v → ending read r (suc n) ≡ ending read (r + 1) n
  unfolding ending
  next_ending r n v e = rw (add-one, e)

  no_values : (r n number : ℕ) (also : List ℕ) → read r ≡ refusal number also → stretch read r (suc n) ≡ []
  unfolding stretch
  no_values r n number also e = rw e

  refused_ending : (r n number : ℕ) (also : List ℕ) → read r ≡ refusal number also → ending read r (suc n) ≡ refusal number also
  unfolding ending
  refused_ending r n number also e = rw e

  -- ---- a loop that stores row by row

  -- the first i rows from r on are stored in `old`, which is `new` now; the rest decides
  pub record Storing (r n : ℕ) (old new : List ℕ) (i : ℕ) : Type 0 where
    pub few : i ≤ n
    pub count : length (stretch read r n) ≡ i + length (stretch read (r + i) (n - i))
    pub end : ending read r n ≡ ending read (r + i) (n - i)
    pub goal : sets old 0 (stretch read r n) ≡ sets new i (stretch read (r + i) (n - i))

  pub storing_starts : (r n : ℕ) (old : List ℕ) → Storing r n old old 0
  storing_starts r n old =
      let here : r ≡ r + 0 = omega arith in
      let all : n ≡ n - 0 = omega arith in
      let same : stretch read r n ≡ stretch read (r + 0) (n - 0) = ap (λ (k : ℕ). stretch read k n) here ∙ ap (stretch read (r + 0)) all in
      record {
        few = omega arith;
        count = omega (arith, ap length same);
        end = ap (λ (k : ℕ). ending read k n) here ∙ ap (ending read (r + 0)) all;
        goal = ap (sets old 0) same;
      }

  module _ {r n : ℕ} {old new : List ℕ} {i : ℕ} (f : Storing r n old new i) where
    pub storing_more : {v : ℕ} → i < n → read (r + i) ≡ value v → Storing r n old (set new i v) (i + 1)
    storing_more {v} h e =
        let left : n - i ≡ suc (n - (i + 1)) = omega arith in
        let here : r + i + 1 ≡ r + (i + 1) = omega arith in
        let after : stretch read (r + i) (n - i) ≡ v ∷ stretch read (r + (i + 1)) (n - (i + 1)) =
        ap (stretch read (r + i)) left ∙ next_values (r + i) (n - (i + 1)) v e ∙ ap (λ (k : ℕ). v ∷ stretch read k (n - (i + 1))) here in
        record {
          few = omega arith;
          count = omega (arith, f.count, ap length after);
          end = f.end ∙ ap (ending read (r + i)) left ∙ next_ending (r + i) (n - (i + 1)) v e ∙ ap (λ (k : ℕ). ending read k (n - (i + 1))) here;
          goal = f.goal ∙ ap (sets new i) after ∙ ap (λ (k : ℕ). sets (set new i v) k (stretch read (r + (i + 1)) (n - (i + 1)))) (sym (add-one i));
        }

    pub storing_whole : n ≤ i → StretchAs read r n (Ok i) old new
    unfolding stretch ending
    storing_whole h =
        let none : n - i ≡ 0 = omega arith in
        let rest : stretch read (r + i) (n - i) ≡ [] = ap (stretch read (r + i)) none in
        record {
          count = omega (arith, f.count, ap length rest);
          end = sym (f.end ∙ ap (ending read (r + i)) none);
          list = sym (f.goal ∙ ap (sets new i) rest);
        }

    pub storing_stopped : {x : Refusal} → i < n → read (r + i) ≡ numbered x → StretchAs read r n (Err (i, x)) old new
    storing_stopped {x} h e =
        let left : n - i ≡ suc (n - (i + 1)) = omega arith in
        let rest : stretch read (r + i) (n - i) ≡ [] = ap (stretch read (r + i)) left ∙ no_values (r + i) (n - (i + 1)) _ _ e in
        record {
          count = omega (arith, f.count, ap length rest);
          end = sym (f.end ∙ ap (ending read (r + i)) left ∙ refused_ending (r + i) (n - (i + 1)) _ _ e);
          list = sym (f.goal ∙ ap (sets new i) rest);
        }

  -- stored into the front of a list, the rest of which stands behind it
  pub stretch_front : (r n : ℕ) {a : Result ℕ (ℕ × Refusal)} {old new : List ℕ} → n ≤ length old → StretchAs read r n a (take n old) new → StretchAs read r n a old (new ++ drop n old)
  stretch_front r n {a} {old} {new} room f =
      let most = stretch_most r n in
      record {
        count = f.count;
        end = f.end;
        list =
            ap (λ (l : List ℕ). l ++ drop n old) f.list
            ∙ sym (front_sets (stretch read r n) (take n old) (drop n old) 0 (omega (arith, length-take-le n old room)))
            ∙ ap (λ (l : List ℕ). sets l 0 (stretch read r n)) (take-append-drop n old);
      }

  -- a chunk that was decoded as a whole, and copied
  pub copied_whole : (r n k : ℕ) (values old new : List ℕ) → value values ≡ read_run read r n → k ≡ length values → new ≡ sets old 0 values → StretchAs read r n (Ok k) old new
  copied_whole r n k values old new run long copied =
      let all = run_stretch r n values (sym run) in
      record { count = long ∙ ap length (sym all.0); end = sym all.1; list = copied ∙ ap (sets old 0) (sym all.0) }

-- read by another reading that agrees
pub stretch_by : (read read' : ℕ → Outcome ℕ) (r n : ℕ) {a : Result ℕ (ℕ × Refusal)} {old new : List ℕ} → ((x : ℕ) → r ≤ x → x < r + n → read x ≡ read' x)
    → StretchAs read r n a old new → StretchAs read' r n a old new
stretch_by read read' r n {a} {old} {new} h f =
    let same = stretch_agree read read' r n h in
    record { count = f.count ∙ ap length same; end = f.end ∙ ending_agree read read' r n h; list = f.list ∙ ap (sets old 0) same }

-- as many rows, said otherwise
pub stretch_for : {read : ℕ → Outcome ℕ} {r n m : ℕ} {a : Result ℕ (ℕ × Refusal)} {old new : List ℕ} → n ≡ m → StretchAs read r n a old new → StretchAs read r m a old new
stretch_for e f = rw e at f
