-- How a run of rows begins, over any reading: it leaves the rows, has none, or is a walk.
--     leaves, none, begins_run
-- Assumes nothing.
use Rattle.format.specs.declared.Refusal.{Refusal}
use Rattle.std.specs.Prelude.{Result, Ok, Err}
use Prim.Native.Nat.{ℕ, ◌+◌, ◌-◌, ◌%◌, ◌<◌, ◌≤◌}
use mathlib.Core.Path.{◌≡◌, refl, sym, ◌∙◌}
use mathlib.Core.Bool.{Bool, true, false}
use mathlib.Core.Logic.{inl}
use mathlib.Core.List.{List, []}
use native.Mathlib.Omega.{arith}
use lib.Dec.{leb}
use lib.ListN.{length}
use lib.Seq.{sets}
use borrow.Author.Tests.{leb-true, le-leb, lt-leb}
use Rattle.format.specs.declared.Window.{Window}
use Rattle.format.specs.declared.Refusal.TheVariants.{NoSuchRow}
use Rattle.format.specs.Outcome.{Outcome, Outcome.value, Outcome.refusal, ◌>>=◌, pick}
use Rattle.format.specs.Runs.{read_run, decoded}
use Rattle.format.proofs.Runs.{run_long}
use Rattle.format.specs.Calls.{StoredAs}
use Rattle.read_walk.specs.Walks.{Kept.all_values, kept, walked, InPass}

module _ (read : ℕ → Outcome ℕ) (window : Window) (first n : ℕ) (list : List ℕ) (long : length list ≡ n) where
  pub leaves : window.rows < first + n → StoredAs (decoded read window.rows first n) (Err NoSuchRow) list list
  unfolding decoded
  leaves h = rw (lt-leb (first + n) window.rows h) (record { answer = refl; list = refl })

  pub none : first + n ≤ window.rows → n ≡ 0 → StoredAs (decoded read window.rows first n) (Ok 0) list list
  unfolding decoded read_run
  none h e = rw (le-leb (first + n) window.rows h, e) (record { answer = refl; list = refl })

  -- a run within the rows is a walk
  ran : first + n ≤ window.rows → decoded read window.rows first n ≡ walked all_values read first (first + n) (length list)
  unfolding decoded
  ran h =
      let long-is : first + n - first ≡ n = omega arith in
      rw (le-leb (first + n) window.rows h, long-is) (by_outcome (read_run read first n) refl)
    where
      by_outcome : (p : Outcome (List ℕ)) → read_run read first n ≡ p → p ≡ (p >>= kept all_values (length list) first)
      by_outcome (value vs) e = let fits : length vs ≤ length list = omega (arith, run_long read first n vs e, long) in rw (le-leb (length vs) (length list) fits)
      by_outcome (refusal x y) e = refl

  pub begins_run : first + n ≤ window.rows → 0 < n → (t : Bool) → t ≡ leb (first + n - first) (512 - (window.first + first) % 512) → (a : Result ℕ Refusal)
      → InPass all_values read window (decoded read window.rows first n) list (record { base = window.first; first = first; end = first + n; at = first; n = 0; storing = t; going = true; answer = a }) list
  unfolding read_run
  begins_run h some t e a =
      let long-is : first + n - first ≡ n = omega arith in
      let none_done : first - first ≡ 0 = omega arith in
      record {
        going = record { on = refl; from = omega arith; to = omega arith; few = omega arith };
        based = refl;
        inside = h;
        sized = long ∙ sym long-is;
        asked = ran h;
        values = [];
        sofar = rw none_done;
        count = refl;
        list_is = by_pass t;
        clean = λ (s : t ≡ true). inl (record { begins = refl; one = leb-true (first + n - first) (512 - (window.first + first) % 512) (sym e ∙ s); enough = omega (arith, long) });
      }
    where
      by_pass : (t : Bool) → list ≡ pick t (sets list 0 []) list
      by_pass true = refl
      by_pass false = refl
