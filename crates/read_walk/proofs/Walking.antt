-- A walk under way: how it goes on behind a chunk, and ends. Over any reading.
--     chunk_based, block_based                               the chunk at hand and its block, as the column counts
--     goes_on, turns_over, all_stored, too_short, none_found behind a chunk
--     has_room                                               for the chunk's entries, where the pass stores
--     refuses                                                at a refused row
--     falls_looking, falls_on, falls_over                    what is left
--     ended, is_passing, is_over                             the phase by what the state says
--     left_as, stores-whole                                  the list, by what storing was told, and what that tells of the chunk
--     passing_long, passing_run                              a lent list is as long as it was, and a run's as its rows
--     nothing, more_stored                                   a list of no entries, and what was stored with more behind it
-- Assumes nothing.
use Rattle.std.specs.Prelude.{Result, Ok, Err}
use Prim.Native.Nat.{ℕ, suc, ◌+◌, ◌-◌, ◌/◌, ◌%◌, ◌^◌, ◌<◌, ◌≤◌}
use mathlib.Core.Path.{◌≡◌, refl, sym, ap, ◌∙◌, subst}
use mathlib.Core.Bool.{Bool, true, false}
use mathlib.Core.Logic.{inr, ⊎_elim}
use mathlib.Core.List.{List, [], ◌∷◌, ◌++◌}
use native.Mathlib.Nat.{add-zero, zero-add, suc-add, add-suc}
use native.Mathlib.Omega.{arith}
use lib.Dec.{leb}
use lib.ListN.{length, set, length-append}
use lib.Seq.{sets, length-sets}
use borrow.Author.Tests.{le-leb, lt-leb, leb-true}
use Rattle.format.specs.declared.Block.{Block}
use Rattle.format.specs.declared.Refusal.{Refusal}
use Rattle.format.specs.declared.Window.{Window}
use Rattle.format.specs.declared.Refusal.TheVariants.{ListShort}
use Rattle.format.specs.Outcome.{Outcome, Outcome.value, Outcome.refusal, ◌>>=◌, ◌>>◌, demand, pick, how_many}
use Rattle.format.specs.Reading.{block_at}
use Rattle.format.specs.Refusals.{numbered, paper, answered_by}
use Rattle.format.specs.Runs.{read_run}
use Rattle.format.proofs.Outcomes.{not_value, value_same, by_step, by_demand}
use Rattle.format.proofs.Runs.{run_long, run_after, run_refused}
use Rattle.format.proofs.Tests.{when, unless, as_unless}
use Rattle.read_row.specs.Chunks.{chunk_size}
use Rattle.format.specs.Calls.{StoredAs}
use Rattle.read_walk.specs.declared.Walk.{Walk}
use Rattle.read_walk.specs.Walks.{Kept, Kept.all_values, Kept.rows_of, entries, kept, next_chunk, Going, left, stores, Sized, Single, Unrefused, InPass, Walking}
use Rattle.read_chunk.proofs.Chunks.{chunk_to}
use Rattle.read_chunk.proofs.Rows.{rows_few, rows_joined}

-- ---- the entries

-- those of two parts
joined : (k : Kept) (r : ℕ) (us vs : List ℕ) → entries k r (us ++ vs) ≡ entries k r us ++ entries k (r + length us) vs
joined all_values r us vs = refl
joined (rows_of test) r us vs = rows_joined test r us vs

-- at most one a row
few : (k : Kept) (r : ℕ) (vs : List ℕ) → length (entries k r vs) ≤ length vs
few all_values r vs = omega arith
few (rows_of test) r vs = rows_few test r vs

-- a list of no entries
pub nothing : (l : List ℕ) → length l ≡ 0 → l ≡ []
nothing [] e = refl
nothing (x ∷ l) e = absurd (omega arith)

-- ---- the chunk at hand

-- a walk's chunk, where its base is a column's first row
pub chunk_based : (w : Walk) {first n : ℕ} → w.base ≡ first → n ≡ next_chunk w → n ≡ chunk_size (first + w.at) (w.end - w.at)
chunk_based w e size = rw e at size

-- and its block
pub block_based : (w : Walk) (t : List Block) {first : ℕ} {b : Block} → w.base ≡ first → b ≡ block_at t ((w.base + w.at) % 2 ^ 32 / 512) → b ≡ block_at t ((first + w.at) % 2 ^ 32 / 512)
block_based w t e block = rw e at block

-- ---- what is left

module _ (w : Walk) (g : Going w) where
  pub falls_looking : w.storing ≡ false → (m : ℕ) → m < (w.end - w.first) + (w.end - w.at) → m < left w
  falls_looking e m h = rw (g.on, e) h

  pub falls_over : (r : Walk) → r.going ≡ false → left r < left w
  falls_over r e = rw (e, g.on) (by_pass w.storing)
    where
      by_pass : (t : Bool) → 0 < pick t (w.end - w.at) ((w.end - w.first) + (w.end - w.at))
      by_pass true = omega (arith, g.to)
      by_pass false = omega (arith, g.to)

  -- a pass goes on behind a chunk
  pub falls_on : (size : ℕ) → 0 < size → pick w.storing (w.end - (w.at + size)) ((w.end - w.first) + (w.end - (w.at + size))) < left w
  falls_on size h = rw g.on (by_pass w.storing)
    where
      by_pass : (t : Bool) → pick t (w.end - (w.at + size)) ((w.end - w.first) + (w.end - (w.at + size))) < pick t (w.end - w.at) ((w.end - w.first) + (w.end - w.at))
      by_pass true = omega (arith, g.to)
      by_pass false = omega (arith, g.to)

-- ---- the phase

module _ {k : Kept} {read : ℕ → Outcome ℕ} {window : Window} {o : Outcome (List ℕ)} {before list : List ℕ} {w : Walk} where
  -- a walk that is over has its answer
  pub ended : {a : Result ℕ Refusal} → w.going ≡ false → w.answer ≡ a → StoredAs o a before list → Walking k read window o before w list
  ended {a} e g f =
      record { phase = as_unless (InPass k read window o before w list) (StoredAs o w.answer before list) w.going e (subst (λ (x : Result ℕ Refusal). StoredAs o x before list) (sym g) f) }

  module _ (f : Walking k read window o before w list) where
    pub is_over : w.going ≡ false → StoredAs o w.answer before list
    is_over e = unless (InPass k read window o before w list) (StoredAs o w.answer before list) w.going e f.phase

    pub is_passing : w.going ≡ true → InPass k read window o before w list
    is_passing e = when (InPass k read window o before w list) (StoredAs o w.answer before list) w.going e f.phase

-- the list that a call left, by what it was told
pub left_as : {k : Kept} {read : ℕ → Outcome ℕ} {window : Window} {o : Outcome (List ℕ)} {before list : List ℕ} {w : Walk} {s t : Bool} (xs ys : List ℕ) → list ≡ pick s xs ys → s ≡ t
    → Walking k read window o before w (pick t xs ys) → Walking k read window o before w list
left_as xs ys e told f = rw (e, told) f

-- a chunk that is stored has its values
pub stores-whole : (w : Walk) (d : Result (Unit {0}) Refusal) → stores w d ≡ true → (d ≡ (Ok tt)) × (w.storing ≡ true)
stores-whole w (Ok tt) e = (refl, e)
stores-whole w (Err x) e = let z : ◌≡◌ {A = ℕ} 0 1 = cc in absurd (omega arith)

picked_long : (t : Bool) (before xs : List ℕ) → length (pick t (sets before 0 xs) before) ≡ length before
picked_long true before xs = length-sets before 0 xs
picked_long false before xs = refl

pub passing_long : {k : Kept} {read : ℕ → Outcome ℕ} {window : Window} {o : Outcome (List ℕ)} {before list : List ℕ} {w : Walk} → InPass k read window o before w list → length list ≡ length before
passing_long {k} {read} {window} {o} {before} {list} {w} f = ap length f.list_is ∙ picked_long w.storing before (entries k w.first f.values)

-- a run has a list of its rows' number, with an entry for each row done
pub passing_run : {read : ℕ → Outcome ℕ} {window : Window} {o : Outcome (List ℕ)} {before list : List ℕ} {w : Walk} → InPass all_values read window o before w list
    → (length list ≡ w.end - w.first) × (w.n ≡ w.at - w.first)
passing_run {read} {window} {o} {before} {list} {w} f = (passing_long f ∙ f.sized, f.count ∙ run_long read w.first (w.at - w.first) f.values f.sofar)

-- ---- behind a chunk

-- storing in two parts
sets_behind : (list : List ℕ) (i : ℕ) (xs ys : List ℕ) → sets list i (xs ++ ys) ≡ sets (sets list i xs) (i + length xs) ys
sets_behind list i [] ys = ap (λ (k : ℕ). sets list k ys) (sym (add-zero i))
sets_behind list i (x ∷ xs) ys = sets_behind (set list i x) (suc i) xs ys ∙ ap (λ (k : ℕ). sets (sets (set list i x) (suc i) xs) k ys) (suc-add i (length xs) ∙ sym (add-suc i (length xs)))

-- what was stored before, and a chunk more
pub more_stored : (t : Bool) (before list us vs : List ℕ) (n : ℕ) → n ≡ length us → list ≡ pick t (sets before 0 us) before → pick t (sets list n vs) list ≡ pick t (sets before 0 (us ++ vs)) before
more_stored true before list us vs n long e = rw (e, long) (sym (sets_behind before 0 us vs ∙ ap (λ (i : ℕ). sets (sets before 0 us) i vs) (zero-add (length us))))
more_stored false before list us vs n long e = e

-- where an outcome is no refusal, its demand held
held : (t : Bool) (number : ℕ) (also xs found : List ℕ) → (demand t number also >> value xs) ≡ value found → (demand t number also >> value xs) ≡ value xs
held true number also xs found e = refl
held false number also xs found e = absurd (not_value e)

-- a second pass has its answer, be it counted or not asked for
counted : (k : Kept) (rows room : ℕ) (t : Bool) (a b : Result ℕ Refusal) (o : Outcome (List ℕ)) → Sized k rows room t a o → answered_by b ≡ how_many o → Sized k rows room true b o
counted all_values rows room t a b o f e = f
counted (rows_of test) rows room t a b o f e = λ s many. e

module _ (k : Kept) (read : ℕ → Outcome ℕ) {window : Window} {o : Outcome (List ℕ)} {before list : List ℕ} {w : Walk} (f : InPass k read window o before w list) (size : ℕ) (chunk : size ≡ next_chunk w) where
  -- the chunk comes behind the rows done
  here : w.first + (w.at - w.first) ≡ w.at
  here = omega (arith, f.going.from)

  module _ (vs : List ℕ) (run : read_run read w.at size ≡ value vs) {n : ℕ} (m : n ≡ length (entries k w.at vs)) where
    -- the rows up to the chunk's end read as the values so far and the chunk's
    longer : read_run read w.first ((w.at - w.first) + size) ≡ value (f.values ++ vs)
    longer =
        run_after read w.first (w.at - w.first) size f.values f.sofar
        ∙ ap (λ (r : ℕ). read_run read r size >>= (λ (l : List ℕ). value (f.values ++ l))) here ∙ rw run

    all_entries : entries k w.first (f.values ++ vs) ≡ entries k w.first f.values ++ entries k w.at vs
    all_entries =
        let far : w.first + length f.values ≡ w.at = ap (λ (x : ℕ). w.first + x) (run_long read w.first (w.at - w.first) f.values f.sofar) ∙ here in
        joined k w.first f.values vs ∙ ap (λ (r : ℕ). entries k w.first f.values ++ entries k r vs) far

    all_count : w.n + n ≡ length (entries k w.first (f.values ++ vs))
    all_count = omega (arith, f.count, m, ap length all_entries, length-append (entries k w.first f.values) (entries k w.at vs))

    stored_so_far : pick w.storing (sets list w.n (entries k w.at vs)) list ≡ pick w.storing (sets before 0 (entries k w.first (f.values ++ vs))) before
    stored_so_far = rw all_entries (more_stored w.storing before list (entries k w.first f.values) (entries k w.at vs) w.n f.count f.list_is)

    -- a pass that stores has room for the chunk's entries
    pub has_room : w.storing ≡ true → w.n + n ≤ length before
    has_room e =
        let to = chunk_to (w.base + w.at) w.at w.end size f.going.to chunk in
        let far : w.end - w.first ≡ ((w.at - w.first) + size) + (w.end - (w.at + size)) = omega (arith, f.going.from, to) in
        ⊎_elim
        (λ (one : Single (length before) w).
        omega (arith, one.begins, one.enough, to, f.count, few k w.first f.values, run_long read w.first (w.at - w.first) f.values f.sofar, m, few k w.at vs, run_long read w.at size vs run))
        (λ (good : Unrefused o).
        by_step (read_run read w.first (w.end - w.first)) (kept k (length before) w.first) (sym f.asked ∙ good.is)
        (λ us all kept-is.
        by_demand (leb (length (entries k w.first us)) (length before)) 15 (length (entries k w.first us) ∷ []) (value (entries k w.first us)) kept-is
        (λ fits same.
        by_step (read_run read (w.first + ((w.at - w.first) + size)) (w.end - (w.at + size))) (λ (l : List ℕ). value ((f.values ++ vs) ++ l))
        (sym (run_after read w.first ((w.at - w.first) + size) (w.end - (w.at + size)) (f.values ++ vs) longer) ∙ ap (read_run read w.first) (sym far) ∙ all)
        (λ ws later is.
        let parts : entries k w.first us ≡ entries k w.first (f.values ++ vs) ++ entries k (w.first + length (f.values ++ vs)) ws = ap (entries k w.first) (sym (value_same is)) ∙ joined k w.first (f.values ++ vs) ws in
        omega (arith, all_count, ap length parts, length-append (entries k w.first (f.values ++ vs)) (entries k (w.first + length (f.values ++ vs)) ws), leb-true (length (entries k w.first us)) (length before) fits)))))
        (f.clean e)

    pub goes_on : w.at + size < w.end
        → InPass k read window o before (record { base = w.base; first = w.first; end = w.end; at = w.at + size; n = w.n + n; storing = w.storing; going = true; answer = w.answer }) (pick w.storing (sets list w.n (entries k w.at vs)) list)
    goes_on h =
        let far : w.at + size - w.first ≡ (w.at - w.first) + size = omega (arith, f.going.from) in
        let most : n ≤ size = omega (arith, m, few k w.at vs, run_long read w.at size vs run) in
        record {
          going = record { on = refl; from = omega (arith, f.going.from); to = h; few = omega (arith, f.going.few) };
          based = f.based;
          inside = f.inside;
          sized = f.sized;
          asked = f.asked;
          values = f.values ++ vs;
          sofar = ap (read_run read w.first) far ∙ longer;
          count = all_count;
          list_is = stored_so_far;
          clean = λ (s : w.storing ≡ true). ⊎_elim (λ (one : Single (length before) w). absurd (omega (arith, one.one, chunk, h, f.going.to))) (λ (good : Unrefused o). inr good) (f.clean s);
        }

    -- the chunk is the last
    module _ (last : w.end ≤ w.at + size) where
      all : read_run read w.first (w.end - w.first) ≡ value (f.values ++ vs)
      all =
          let far : w.end - w.first ≡ (w.at - w.first) + size = omega (arith, f.going.from, chunk_to (w.base + w.at) w.at w.end size f.going.to chunk) in
          ap (read_run read w.first) far ∙ longer

      found : o ≡ kept k (length before) w.first (f.values ++ vs)
      found = f.asked ∙ rw all

      -- there is room
      all_kept : w.n + n ≤ length before → o ≡ value (entries k w.first (f.values ++ vs))
      all_kept h =
          let fits : length (entries k w.first (f.values ++ vs)) ≤ length before = omega (arith, all_count) in
          found ∙ rw (le-leb (length (entries k w.first (f.values ++ vs))) (length before) fits)

      -- a pass that stores has room
      pub all_stored : w.storing ≡ true → StoredAs o (Ok (w.n + n)) before (pick w.storing (sets list w.n (entries k w.at vs)) list)
      all_stored e =
          let is : o ≡ value (entries k w.first (f.values ++ vs)) =
          ⊎_elim
          (λ (one : Single (length before) w).
          all_kept (omega (arith, all_count, few k w.first (f.values ++ vs), run_long read w.first (w.end - w.first) (f.values ++ vs) all, one.enough)))
          (λ (good : Unrefused o). found ∙ held (leb (length (entries k w.first (f.values ++ vs))) (length before)) 15 (length (entries k w.first (f.values ++ vs)) ∷ []) (entries k w.first (f.values ++ vs)) good.found (sym found ∙ good.is))
          (f.clean e) in
          record {
            answer = ap value all_count ∙ rw is refl;
            list = stored_so_far ∙ rw (e, is) refl;
          }

      -- a pass that only looks
      module _ (e : w.storing ≡ false) where
        untouched : pick w.storing (sets list w.n (entries k w.at vs)) list ≡ before
        untouched = stored_so_far ∙ rw e refl

        pub too_short : length before < w.n + n → StoredAs o (Err (ListShort (w.n + n))) before (pick w.storing (sets list w.n (entries k w.at vs)) list)
        too_short h =
            let over : length before < length (entries k w.first (f.values ++ vs)) = omega (arith, all_count) in
            let is : o ≡ refusal 15 ((w.n + n) ∷ []) = found ∙ rw (lt-leb (length (entries k w.first (f.values ++ vs))) (length before) over, ← all_count) in
            record { answer = rw is refl; list = untouched ∙ rw is refl }

        pub none_found : w.n + n ≡ 0 → StoredAs o (Ok 0) before (pick w.storing (sets list w.n (entries k w.at vs)) list)
        none_found h =
            let is : o ≡ value [] = all_kept (omega arith) ∙ ap value (nothing _ (sym all_count ∙ h)) in
            record { answer = rw is refl; list = untouched ∙ rw is refl }

        pub turns_over : w.n + n ≤ length before
            → InPass k read window o before (record { base = w.base; first = w.first; end = w.end; at = w.first; n = 0; storing = true; going = true; answer = Ok (w.n + n) }) (pick w.storing (sets list w.n (entries k w.at vs)) list)
        unfolding read_run
        turns_over h =
            let is : o ≡ value (entries k w.first (f.values ++ vs)) = all_kept h in
            let none_done : w.first - w.first ≡ 0 = omega arith in
            let empty : entries k w.first [] ≡ [] = nothing _ (omega (arith, few k w.first [])) in
            record {
              going = record { on = refl; from = omega arith; to = omega (arith, f.going.from, f.going.to); few = omega arith };
              based = f.based;
              inside = f.inside;
              sized = counted k (w.end - w.first) (length before) w.storing w.answer (Ok (w.n + n)) o f.sized (ap value all_count ∙ rw is refl);
              asked = f.asked;
              values = [];
              sofar = rw none_done;
              count = rw empty refl;
              list_is = untouched ∙ rw empty refl;
              clean = λ s. inr (record { found = entries k w.first (f.values ++ vs); is = is });
            }

  -- ---- at a refused row

  pub refuses : (x : Refusal) → read_run read w.at size ≡ numbered x → StoredAs o (Err x) before list
  refuses x run =
      let far : w.end - w.first ≡ (w.at - w.first) + (size + (w.end - (w.at + size))) = omega (arith, f.going.from, chunk_to (w.base + w.at) w.at w.end size f.going.to chunk) in
      let stops : read_run read w.at (size + (w.end - (w.at + size))) ≡ refusal (paper x).0 (paper x).1 = run_refused read w.at size (w.end - (w.at + size)) (paper x).0 (paper x).1 run in
      let all : read_run read w.first (w.end - w.first) ≡ refusal (paper x).0 (paper x).1 =
      ap (read_run read w.first) far ∙ run_after read w.first (w.at - w.first) (size + (w.end - (w.at + size))) f.values f.sofar
      ∙ ap (λ (r : ℕ). read_run read r (size + (w.end - (w.at + size))) >>= (λ (l : List ℕ). value (f.values ++ l))) here ∙ rw stops in
      let is : o ≡ refusal (paper x).0 (paper x).1 = f.asked ∙ rw all in
      rw is (record { answer = refl; list = kept_as_it_was w.storing refl is })
    where
      kept_as_it_was : (t : Bool) → w.storing ≡ t → o ≡ refusal (paper x).0 (paper x).1 → list ≡ before
      kept_as_it_was false e is = f.list_is ∙ rw e refl
      kept_as_it_was true e is =
          ⊎_elim
          (λ (one : Single (length before) w).
          let no_values : length f.values ≡ 0 = run_long read w.first (w.at - w.first) f.values f.sofar ∙ (omega (arith, one.begins)) in
          let no_entries : length (entries k w.first f.values) ≡ 0 = omega (arith, few k w.first f.values) in
          f.list_is ∙ rw (e, nothing (entries k w.first f.values) no_entries) refl)
          (λ (good : Unrefused o). absurd (not_value (sym is ∙ good.is)))
          (f.clean e)
