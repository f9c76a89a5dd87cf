-- What is left of a lookup under way, as far as its count tells it without reading. Over any reading and any test.
--     rows_put                    rows one after the other, written into a part of a list
--     trims                       while nothing is found, the rows done are left out, and a single chunk is stored at once
--     told_done, told_all         a second pass that has found all, and one that finds all rows left
--     not_done                    what a test of that says
-- Assumes nothing.
use Rattle.format.specs.declared.Refusal.{Refusal}
use Rattle.format.specs.Refusals.{answered_by}
use Rattle.std.specs.Prelude.{Result, Ok}
use Prim.Native.Nat.{ℕ, zero, suc, ◌+◌, ◌-◌, ◌%◌, ◌<◌, ◌≤◌}
use mathlib.Core.Path.{◌≡◌, refl, sym, ap, ◌∙◌}
use mathlib.Core.Bool.{Bool, true, false}
use mathlib.Core.Logic.{inl}
use mathlib.Core.List.{List, [], ◌∷◌, ◌++◌}
use native.Mathlib.Nat.{add-zero}
use native.Mathlib.Numerals.{add-one}
use native.Mathlib.Omega.{arith}
use lib.Dec.{leb}
use lib.ListN.{length, get_or, length-append}
use lib.Seq.{sets}
use borrow.Rule.Slice.PartMut.{put_mid}
use Rattle.std.proofs.lemmas.List.{ext_get_or}
use Rattle.format.specs.declared.Window.{Window}
use Rattle.format.specs.Outcome.{Outcome, Outcome.value, Outcome.refusal, ◌>>=◌, how_many, pick, stored}
use Rattle.format.specs.Runs.{read_run}
use Rattle.format.proofs.Outcomes.{value_same, by_step, by_demand}
use Rattle.format.proofs.Runs.{run_long, run_after}
use Rattle.format.proofs.Tests.{unless}
use Rattle.read_chunk.specs.Rows.{rows_among}
use Rattle.read_chunk.proofs.Copies.{part_sets}
use Rattle.read_chunk.proofs.Rows.{rows_few, rows_joined}
use Rattle.read_lookup.specs.Rests.{rows_from, DoneAs}
use Rattle.format.specs.Calls.{StoredAs}
use Rattle.read_walk.specs.declared.Walk.{Walk}
use Rattle.read_walk.specs.Walks.{Kept.rows_of, kept, InPass}
use Rattle.read_walk.proofs.Walking.{nothing, more_stored}

-- ---- rows one after the other

from_long : (r n : ℕ) → length (rows_from r n) ≡ n
unfolding rows_from
from_long r zero = refl
from_long r (suc n) = ap suc (from_long (suc r) n)

from_at : (r n i : ℕ) → i < n → get_or (rows_from r n) i 0 ≡ r + i
unfolding rows_from
from_at r zero i h = absurd (omega arith)
from_at r (suc n) zero h = sym (add-zero r)
from_at r (suc n) (suc i) h = from_at (suc r) n i (omega arith) ∙ omega arith

-- a part of a list whose entries are those rows
pub rows_put : (r n at k : ℕ) (list part : List ℕ) → k ≡ n → length part ≡ n → at + n ≤ length list → ((i : ℕ) → i < n → get_or part i 0 ≡ r + i) → put_mid at k list part ≡ sets list at (rows_from r n)
rows_put r n at k list part size long room here =
    let all : length (rows_from r n) ≡ n = from_long r n in
    let same : part ≡ rows_from r n = ext_get_or 0 part (rows_from r n) (long ∙ sym all) (λ i h. here i (omega arith) ∙ sym (from_at r n i (omega arith))) in
    part_sets at k list part (rows_from r n) same (size ∙ sym all) (omega arith)

-- one value less than passes leaves no way for the others to make up for it
by_test : (t : Bool) (r : ℕ) (rest : List ℕ) (n : ℕ) → length rest ≤ n → (length rest ≡ n → rest ≡ rows_from (suc r) n) → length (pick t (r ∷ rest) rest) ≡ suc n → pick t (r ∷ rest) rest ≡ r ∷ rows_from (suc r) n
by_test true r rest n few all e = ap (λ (l : List ℕ). r ∷ l) (all (omega arith))
by_test false r rest n few all e = absurd (omega arith)

-- where as many rows pass a test as there are values, they are all of them
all_pass : (test : ℕ → Bool) (r : ℕ) (vs : List ℕ) → length (rows_among test r vs) ≡ length vs → rows_among test r vs ≡ rows_from r (length vs)
unfolding rows_among rows_from
all_pass test r [] e = refl
all_pass test r (v ∷ vs) e = by_test (test v) r (rows_among test (r + 1) vs) (length vs) (rows_few test (r + 1) vs) (λ all. all_pass test (r + 1) vs all ∙ ap (λ (k : ℕ). rows_from k (length vs)) (add-one r)) e

-- no entries stored leave a list as it was, in either pass
nothing_stored : (t : Bool) (list : List ℕ) → list ≡ pick t (sets list 0 []) list
nothing_stored true list = refl
nothing_stored false list = refl

-- ---- a lookup in a pass

module _ (test : ℕ → Bool) (read : ℕ → Outcome ℕ) {window : Window} {o : Outcome (List ℕ)} {before list : List ℕ} {w : Walk} (f : InPass (rows_of test) read window o before w list) where
  -- the rows left come behind those done
  here : w.first + (w.at - w.first) ≡ w.at
  here = omega (arith, f.going.from)

  all_rows_lem : read_run read w.first (w.end - w.first) ≡ (read_run read w.at (w.end - w.at) >>= (λ (l : List ℕ). value (f.values ++ l)))
  all_rows_lem =
      let far : w.end - w.first ≡ (w.at - w.first) + (w.end - w.at) = omega (arith, f.going.from, f.going.to) in
      ap (read_run read w.first) far ∙ run_after read w.first (w.at - w.first) (w.end - w.at) f.values f.sofar
      ∙ ap (λ (r : ℕ). read_run read r (w.end - w.at) >>= (λ (l : List ℕ). value (f.values ++ l))) here

  all_found : (us : List ℕ) → rows_among test w.first (f.values ++ us) ≡ rows_among test w.first f.values ++ rows_among test w.at us
  all_found us =
      let far : w.first + length f.values ≡ w.at = ap (λ (x : ℕ). w.first + x) (run_long read w.first (w.at - w.first) f.values f.sofar) ∙ here in
      rows_joined test w.first f.values us ∙ ap (λ (r : ℕ). rows_among test w.first f.values ++ rows_among test r us) far

  -- ---- nothing is found so far

  module _ (none : w.n ≡ 0) where
    from_here : (us : List ℕ) → rows_among test w.first (f.values ++ us) ≡ rows_among test w.at us
    from_here us = all_found us ∙ ap (λ (l : List ℕ). l ++ rows_among test w.at us) (nothing (rows_among test w.first f.values) (sym f.count ∙ none))

    same_walk : (room : ℕ) (p : Outcome (List ℕ)) → ((p >>= (λ (l : List ℕ). value (f.values ++ l))) >>= kept (rows_of test) room w.first) ≡ (p >>= kept (rows_of test) room w.at)
    same_walk room (value us) = rw (from_here us)
    same_walk room (refusal number also) = refl

    pub trims : (t : Bool) → w.storing ≡ false → (t ≡ true → (w.end - w.at ≤ 512 - (w.base + w.at) % 512) × (w.end - w.at ≤ length before))
        → InPass (rows_of test) read window o before (record { base = w.base; first = w.at; end = w.end; at = w.at; n = 0; storing = t; going = true; answer = w.answer }) list
    unfolding read_run rows_among
    trims t e single =
        let none_done : w.at - w.at ≡ 0 = omega arith in
        record {
          going = record { on = refl; from = omega arith; to = f.going.to; few = omega arith };
          based = f.based;
          inside = f.inside;
          sized = λ (s : t ≡ true) many. absurd (omega (arith, (single s).0));
          asked = f.asked ∙ ap (λ (p : Outcome (List ℕ)). p >>= kept (rows_of test) (length before) w.first) all_rows_lem ∙ same_walk (length before) (read_run read w.at (w.end - w.at));
          values = [];
          sofar = rw none_done;
          count = refl;
          list_is = f.list_is ∙ ap (λ (x : Bool). pick x (sets before 0 (rows_among test w.first f.values)) before) e ∙ nothing_stored t before;
          clean = λ (s : t ≡ true). inl (record { begins = refl; one = (single s).0; enough = (single s).1 });
        }

  -- ---- how many are found is known

  -- the values of the rows left, and what the lookup finds
  record Rest (total : ℕ) : Type 0 where
    pub values : List ℕ
    pub long : length values ≡ w.end - w.at
    pub is : o ≡ value (rows_among test w.first f.values ++ rows_among test w.at values)
    pub sum : total ≡ w.n + length (rows_among test w.at values)

  module _ (total : ℕ) (storing : w.storing ≡ true) (many : 512 < w.end - w.first) (answer : w.answer ≡ Ok total) where
    known : value total ≡ how_many o
    known = ap answered_by (sym answer) ∙ f.sized storing many

    rest : Rest total
    rest =
        by_step o (λ (xs : List ℕ). value (length xs)) (sym known)
        (λ xs is long.
        by_step (read_run read w.first (w.end - w.first)) (kept (rows_of test) (length before) w.first) (sym f.asked ∙ is)
        (λ vs run kept-is.
        by_step (read_run read w.at (w.end - w.at)) (λ (l : List ℕ). value (f.values ++ l)) (sym all_rows_lem ∙ run)
        (λ us rest-run joined.
        by_demand (leb (length (rows_among test w.first vs)) (length before)) 15 (length (rows_among test w.first vs) ∷ []) (value (rows_among test w.first vs)) kept-is
        (λ room same.
        let found : rows_among test w.first vs ≡ rows_among test w.first f.values ++ rows_among test w.at us = ap (rows_among test w.first) (sym (value_same joined)) ∙ all_found us in
        let both : xs ≡ rows_among test w.first f.values ++ rows_among test w.at us = sym (value_same same) ∙ found in
        record {
          values = us;
          long = run_long read w.at (w.end - w.at) us rest-run;
          is = is ∙ ap value both;
          sum = sym (value_same long) ∙ ap length both ∙ length-append (rows_among test w.first f.values) (rows_among test w.at us)
              ∙ ap (λ (k : ℕ). k + length (rows_among test w.at us)) (sym f.count);
        }))))

    -- what stands in the list, and the rows left
    stored_all : sets list w.n (rows_among test w.at rest.values) ≡ sets before 0 (rows_among test w.first f.values ++ rows_among test w.at rest.values)
    stored_all =
        let us = rows_among test w.first f.values in
        more_stored true before list us (rows_among test w.at rest.values) w.n f.count (f.list_is ∙ ap (λ (t : Bool). pick t (sets before 0 us) before) storing)

    finds : StoredAs o w.answer before (sets list w.n (rows_among test w.at rest.values))
    finds = record { answer = f.sized storing many; list = stored_all ∙ sym (ap (λ (x : Outcome (List ℕ)). stored x before) rest.is) }

    pub told_done : total ≤ w.n → StoredAs o w.answer before list
    told_done h = let z : rows_among test w.at rest.values ≡ [] = nothing _ (omega (arith, rest.sum)) in rw z at finds

    pub told_all : total - w.n ≡ w.end - w.at → StoredAs o w.answer before (sets list w.n (rows_from w.at (total - w.n)))
    told_all h =
        let many : length (rows_among test w.at rest.values) ≡ length rest.values = omega (arith, rest.sum, rest.long) in
        let all : rows_among test w.at rest.values ≡ rows_from w.at (total - w.n) = all_pass test w.at rest.values many ∙ ap (rows_from w.at) (rest.long ∙ sym h) in
        rw all at finds

-- ---- what a test says

module _ {done : Bool} {o : Outcome (List ℕ)} {answer : Result ℕ Refusal} {before old new : List ℕ} (f : DoneAs done o answer before old new) where
  pub not_done : done ≡ false → new ≡ old
  not_done e = unless (StoredAs o answer before new) (new ≡ old) done e f.either
