-- How a lookup begins. Over any reading and any test.
--     begins_lookup
-- Assumes nothing.
use Rattle.std.specs.Prelude.{Ok}
use Prim.Native.Nat.{ℕ, ◌-◌, min}
use mathlib.Core.Path.{◌≡◌, refl}
use mathlib.Core.Bool.{Bool, true, false}
use mathlib.Core.List.{List, [], ◌∷◌}
use native.Mathlib.Omega.{arith}
use lib.Dec.{ltb, leb}
use lib.ListN.{length}
use borrow.Author.Tests.{ltb-true, ltb-false, le-leb}
use Rattle.format.specs.declared.Window.{Window}
use Rattle.format.specs.Lookup.{all_read, rows_passing, looked_up}
use Rattle.format.specs.Outcome.{Outcome, Outcome.value, Outcome.refusal, ◌>>=◌, ◌>>◌, demand}
use Rattle.format.specs.Runs.{read_run}
use Rattle.read_chunk.specs.Rows.{rows_among}
use Rattle.read_chunk.proofs.Rows.{all_run, all_refused, rows_run}
use Rattle.read_walk.specs.declared.Walk.{Walk}
use Rattle.read_walk.specs.Walks.{Kept.rows_of, kept, walked, Walking}

module _ (read : ℕ → Outcome ℕ) (test : ℕ → Bool) where
  -- a lookup is a walk
  looked_up_lem : (rows first end room : ℕ) → looked_up read rows test first end room ≡ walked (rows_of test) read first (min end rows) room
  unfolding looked_up
  looked_up_lem rows first end room = by_outcome (read_run read first (min end rows - first)) refl
    where
      by_outcome : (p : Outcome (List ℕ)) → read_run read first (min end rows - first) ≡ p
          → (all_read read first (min end rows - first) >> (demand (leb (length (rows_passing read test first (min end rows - first))) room) 15 (length (rows_passing read test first (min end rows - first)) ∷ []) >> value (rows_passing read test first (min end rows - first)))) ≡ (p >>= kept (rows_of test) room first)
      by_outcome (value vs) e = rw (all_run read first (min end rows - first) vs e, rows_run read test first (min end rows - first) vs e)
      by_outcome (refusal x y) e = rw (all_refused read first (min end rows - first) x y e)

  pub begins_lookup : (window : Window) (first end last : ℕ) (list : List ℕ) (w : Walk) → last ≡ min end window.rows → w ≡ record { base = window.first; first = first; end = last; at = first; n = 0; storing = false; going = ltb first last; answer = Ok 0 }
      → Walking (rows_of test) read window (looked_up read window.rows test first end (length list)) list w list
  unfolding read_run rows_among
  begins_lookup window first end last list w cut is = rw (is, looked_up_lem window.rows first end (length list), ← cut) (by_rows (ltb first last) refl)
    where
      by_rows : (t : Bool) → ltb first last ≡ t
          → Walking (rows_of test) read window (walked (rows_of test) read first last (length list)) list (record { base = window.first; first = first; end = last; at = first; n = 0; storing = false; going = t; answer = Ok 0 }) list
      by_rows true e = record {
        phase = record {
          going = record { on = refl; from = omega arith; to = ltb-true _ _ e; few = omega arith };
          based = refl;
          inside = omega arith;
          sized = λ (s : false ≡ true) many. let z : ◌≡◌ {A = ℕ} 0 1 = cc in absurd (omega arith);
          asked = refl;
          values = [];
          sofar = let none_done : first - first ≡ 0 = omega arith in rw none_done;
          count = refl;
          list_is = refl;
          clean = λ (s : false ≡ true). let z : ◌≡◌ {A = ℕ} 0 1 = cc in absurd (omega arith);
        };
      }
      by_rows false e =
          let no_rows : last - first ≡ 0 = omega (arith, ltb-false first last e) in
          rw (no_rows, le-leb 0 (length list) (omega arith)) (record { phase = record { answer = refl; list = refl } })
