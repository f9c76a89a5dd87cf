-- A walk over the rows beside a list, over any reading.
--     behind_none, front_few, behind_some          a turn: a chunk that has no values, and one that has
--     stretch-kept                      the list of a chunk keeps its length
--     walking_starts, walking_step      it starts with all rows; a chunk leaves it under way, or over
--     step_less                         a turn leaves less
--     step_room                         what the turn asks for
--     walked_over                       where it is over, the verdict is that of the rule
-- Assumes nothing.
use Rattle.format.specs.declared.Refusal.{Refusal}
use Rattle.std.specs.Prelude.{Some, None, Result}
use Prim.Native.Nat.{ℕ, zero, suc, ◌+◌, ◌-◌, ◌^◌, ◌≤◌, ◌<◌}
use mathlib.Core.Path.{◌≡◌, refl, sym, ap, ◌∙◌, subst}
use mathlib.Core.Bool.{Bool, true, false, ◌&&◌}
use mathlib.Core.Logic.{⊎_elim}
use mathlib.Core.List.{List}
use native.Mathlib.Nat.{add-zero}
use native.Mathlib.Omega.{arith}
use borrow.Author.Tests.{lt-ltb, le-ltb, le-leb, ltb-true, leb-true, eq-eqb}
use lib.Dec.{ltb, leb}
use lib.ListN.{length, take, drop, get_or, length-take, length-drop, drop_of_length-le}
use lib.Seq.{length-sets, drop-drop}
use Rattle.format.specs.declared.Column.{Column}
use Rattle.format.specs.declared.Kind.{Kind}
use Rattle.format.specs.Checking.{Reason.unequal, Verdict.failed, first_unequal, by_row, judged_head, judged}
use Rattle.format.specs.Outcome.{Outcome, Outcome.value, Outcome.refusal, pick}
use Rattle.format.specs.Stats.{stats_of}
use Rattle.format.specs.Typed.{stored_in, stored_as}
use Rattle.format.proofs.Lists.{below_or, drop-map}
use Rattle.format.proofs.Stores.{stores_front}
use Rattle.read_row.specs.Chunks.{chunk_size}
use Rattle.read_chunk.specs.Stretch.{leading, stretch, counted, StretchAs}
use Rattle.read_chunk.proofs.Stretches.{stretch_most, stretch_value}
use Rattle.check_verdict.specs.declared.rows.Walk.{Walk}
use Rattle.check_verdict.specs.Walks.{same_front, behind, left, Walking, verdict}
use Rattle.check_verdict.proofs.Fronts.{front_most, skip_front, stop_front, stop_refused}

-- a list that a chunk was read into keeps its length
pub stretch-kept : {read : ℕ → Outcome ℕ} {r n : ℕ} {a : Result ℕ (ℕ × Refusal)} {old new : List ℕ} → StretchAs read r n a old new → length new ≡ length old
stretch-kept {read} {r} {n} {a} {old} f = ap length f.list ∙ length-sets old 0 (stretch read r n)

-- two tests that are passed
both_true : (t u : Bool) → (t && u) ≡ true → (t ≡ true) × (u ≡ true)
both_true true u e = (refl, e)
both_true false u e = let z : ◌≡◌ {A = ℕ} 0 1 = cc in absurd (omega arith)

-- ---- the turn

-- a chunk without values
pub behind_none : (n : ℕ) (xs vs : List ℕ) (w : Walk) → n ≡ 0 → record { at = w.at; going = false } ≡ behind n (same_front (take n xs) vs) w
unfolding same_front
behind_none n xs vs w e = rw e (let back = sym (add-zero w.at) in λ i. record { at = back i; going = false })

-- no more values of a chunk are the list's than it has
pub front_few : (m : ℕ) (xs vs : List ℕ) {same : ℕ} → same ≡ same_front (take m xs) vs → same ≤ m
front_few m xs vs is = omega (arith, (front_most (take m xs) vs).0, length-take m xs)

-- a chunk of some, beside the rest of the list
pub behind_some : (kind : Kind) (n m same : ℕ) (xs values : List ℕ) (w : Walk) → m ≡ n → (m ≡ 0 → ⊥) → same ≡ same_front (take m xs) (stored_as kind (drop w.at values))
    → record { at = w.at + same; going = leb m same } ≡ behind n (same_front (take n xs) (drop w.at (stored_as kind values))) w
behind_some kind n m same xs values w e more is =
    rw (← e, ← drop-map (stored_in kind) w.at values, ← is, lt-ltb 0 m (omega (arith, more))) refl

-- ---- the walk

module _ (read : ℕ → Outcome ℕ) where
  -- a stretch of some rows without a value: the first is refused
  none_refused : (r n : ℕ) → 0 < n → length (stretch read r n) ≡ 0 → (number : ℕ) × (also : List ℕ) × (read r ≡ refusal number also)
  unfolding stretch
  none_refused r zero h e = absurd (omega arith)
  none_refused r (suc n) h e = go (read r) refl e
    where
      go : (o : Outcome ℕ) → read r ≡ o → length (leading o (stretch read (suc r) n)) ≡ 0 → (number : ℕ) × (also : List ℕ) × (read r ≡ refusal number also)
      go (value v) q f = absurd (omega arith)
      go (refusal number also) q f = (number, also, q)

  pub walking_starts : (vs : List ℕ) → Walking read vs (record { at = 0; going = true })
  walking_starts vs = record { inside = omega arith; onward = refl; over = λ e. let z : ◌≡◌ {A = ℕ} 0 1 = cc in absurd (omega arith) }

  module _ {vs : List ℕ} {w : Walk} (f : Walking read vs w) where
    -- the chunk at hand: its values, and how many of them are the list's
    abbrev values : List ℕ
    values = stretch read w.at (chunk_size w.at (length vs - w.at))

    abbrev same : ℕ
    same = same_front values (drop w.at vs)

    few : length values ≤ length vs - w.at
    few = omega (arith, stretch_most read w.at (chunk_size w.at (length vs - w.at)))

    small : length values ≤ 512
    small = omega (arith, stretch_most read w.at (chunk_size w.at (length vs - w.at)))

    each : (j : ℕ) → j < length values → read (w.at + j) ≡ value (get_or values j 0)
    each j h = stretch_value read w.at (chunk_size w.at (length vs - w.at)) j h

    here : drop same (drop w.at vs) ≡ drop (w.at + same) vs
    here = drop-drop same w.at vs

    -- a chunk that ends the walk before the rows end does so at an unequal row
    unequal_there : (ltb 0 (length values) && leb (length values) same) ≡ false → w.at + same < length vs → first_unequal read (w.at + same) (drop same (drop w.at vs)) ≡ Some (w.at + same)
    unequal_there stops more =
        ⊎_elim
        (λ (some_read : 0 < length values).
        ⊎_elim
        (λ (other : same < length values). stop_front read w.at values (drop w.at vs) each other (omega (arith, length-drop w.at vs)))
        (λ (all : length values ≤ same). absurd (let z : ◌≡◌ {A = Bool} true false = sym (rw (lt-ltb 0 (length values) some_read, le-leb (length values) same all) refl) ∙ stops in let y : ◌≡◌ {A = ℕ} 0 1 = cc in omega arith))
        (below_or same (length values)))
        (λ (no_value : length values ≤ 0).
        let at_once : same ≡ 0 = omega (arith, (front_most values (drop w.at vs)).0) in
        let why = none_refused w.at (chunk_size w.at (length vs - w.at)) (omega arith) (omega arith) in
        rw at_once (rw add-zero (stop_refused read w.at (drop w.at vs) why.0 why.1 (omega (arith, length-drop w.at vs)) why.2)))
        (below_or 0 (length values))

    -- no row is left
    no_row : length vs ≤ w.at + same → first_unequal read (w.at + same) (drop same (drop w.at vs)) ≡ None
    unfolding first_unequal
    no_row h = rw (here, drop_of_length-le vs {i = w.at + same} h) refl

    stepped : {a : Result ℕ (ℕ × Refusal)} {old new : List ℕ} → length old ≡ 512 → StretchAs read w.at (chunk_size w.at (length vs - w.at)) a old new
        → Walking read vs (behind (counted a) (same_front (take (counted a) new) (drop w.at vs)) w)
    stepped {a} {old} {new} room chunk = rw (chunk.count, chunk.list, stores_front old values (omega (arith, small))) (record {
      inside = omega (arith, (front_most values (drop w.at vs)).1, length-drop w.at vs, f.inside);
      onward = f.onward ∙ skip_front read w.at values (drop w.at vs) each ∙ ap (first_unequal read (w.at + same)) here;
      over = λ stops.
          ap (first_unequal read (w.at + same)) (sym here)
          ∙ ⊎_elim
          (λ more. unequal_there stops more ∙ rw (lt-ltb (w.at + same) (length vs) more) refl)
          (λ none_left. no_row none_left ∙ rw (le-ltb (w.at + same) (length vs) none_left) refl)
          (below_or (w.at + same) (length vs));
    })

    less : {a : Result ℕ (ℕ × Refusal)} {old new : List ℕ} → w.going ≡ true → length old ≡ 512 → StretchAs read w.at (chunk_size w.at (length vs - w.at)) a old new
        → left (length vs) (behind (counted a) (same_front (take (counted a) new) (drop w.at vs)) w) < left (length vs) w
    less {a} {old} {new} on room chunk = rw (chunk.count, chunk.list, stores_front old values (omega (arith, small)), on) (by (ltb 0 (length values) && leb (length values) same) refl)
      where
        by : (t : Bool) → (ltb 0 (length values) && leb (length values) same) ≡ t → pick t (suc (length vs - (w.at + same))) 0 < suc (length vs - w.at)
        by false e = omega arith
        by true e =
            let t = both_true (ltb 0 (length values)) (leb (length values) same) e in
            let some_read : 0 < length values = ltb-true 0 (length values) t.0 in
            let all : length values ≤ same = leb-true (length values) same t.1 in
            omega (arith, (front_most values (drop w.at vs)).1, length-drop w.at vs)

    -- the turn's answer
    module _ {a : Result ℕ (ℕ × Refusal)} {old new : List ℕ} {next : Walk} (room : length old ≡ 512) (chunk : StretchAs read w.at (chunk_size w.at (length vs - w.at)) a old new)
        (is : next ≡ behind (counted a) (same_front (take (counted a) new) (drop w.at vs)) w) where
      pub walking_step : Walking read vs next
      walking_step = subst (λ (x : Walk). Walking read vs x) (sym is) (stepped room chunk)

      pub step_less : w.going ≡ true → left (length vs) next < left (length vs) w
      step_less on = subst (λ (x : Walk). left (length vs) x < left (length vs) w) (sym is) (less on room chunk)

    pub step_room : {a : Result ℕ (ℕ × Refusal)} {old new : List ℕ} (long : ℕ) → long ≡ length vs → long < 2 ^ 32 → length old ≡ 512 → StretchAs read w.at (chunk_size w.at (length vs - w.at)) a old new
        → (counted a ≤ length new) × (w.at ≤ long) × (w.at + counted a < 2 ^ 32)
    step_room {a} {old} {new} long is below room chunk =
        let count : counted a ≡ length values = chunk.count in
        let kept : length new ≡ length old = stretch-kept chunk in
        (omega (arith, small), omega (arith, f.inside), omega (arith, few, f.inside))

    pub walked_over : (col : Column) → w.going ≡ false → col.rows ≡ length vs → judged read col vs ≡ verdict col vs w.at
    unfolding judged
    walked_over col stops count =
        rw (eq-eqb col.rows (length vs) count, f.onward, f.over stops) (by (ltb w.at (length vs)))
      where
        by : (t : Bool) → by_row (pick t (Some w.at) None) (judged_head col (stats_of vs)) ≡ pick t (failed (unequal w.at)) (judged_head col (stats_of vs))
        by true = refl
        by false = refl
