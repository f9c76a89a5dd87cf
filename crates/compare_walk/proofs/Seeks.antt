-- A search for the first difference under way, over any two readings.
--     one_equal, one_differs            the rows that differ, by the first
--     is_on_hand                        the phase by what the state says
--     goes_behind, stops_at             a turn
--     starts                            the beginning
--     go_less, less_to_go               what is left falls
--     up_to_end                         rows that lie in a window lie before the end
-- Assumes nothing.
use Rattle.format.specs.declared.Refusal.{Refusal}
use Rattle.format.specs.Refusals.{answered_by}
use Rattle.std.specs.Prelude.{Some, None, Result}
use Prim.Native.Nat.{ℕ, zero, suc, ◌+◌, ◌-◌, ◌≤◌, ◌<◌}
use mathlib.Core.Path.{◌≡◌, refl, sym, ap, ◌∙◌}
use mathlib.Core.Bool.{Bool, true, false}
use mathlib.Core.List.{◌∷◌}
use native.Mathlib.Nat.{add-zero, zero-add, suc-add, add-suc}
use native.Mathlib.Omega.{arith}
use lib.Dec.{ltb}
use borrow.Author.Tests.{ltb-true, ltb-false}
use Rattle.format.specs.Comparing.{equal_answers, differing}
use Rattle.format.specs.Lookup.{rows_passing}
use Rattle.format.specs.Outcome.{Outcome, pick}
use Rattle.format.proofs.Tests.{when, as_when, as_unless}
use Rattle.compare_walk.specs.declared.walking.Walk.{Walk}
use Rattle.compare_walk.specs.Differences.{first_difference, difference_meaning}
use Rattle.compare_walk.specs.Equal.{EqualFor}
use Rattle.compare_walk.specs.Walking.{onwards, to_go, UnderWay, OnHand, Seeking}

module _ (left right : ℕ → Outcome ℕ) where
  abbrev equal_at : ℕ → Bool
  equal_at r = equal_answers (left r) (right r)

  -- ---- the rows that differ, behind some that do not

  pub one_equal : (r n : ℕ) → equal_at r ≡ true → differing left right r (suc n) ≡ differing left right (suc r) n
  unfolding rows_passing
  one_equal r n e = rw e

  pub one_differs : (r n : ℕ) → equal_at r ≡ false → differing left right r (suc n) ≡ r ∷ differing left right (suc r) n
  unfolding rows_passing
  one_differs r n e = rw e

  skipped : (r m n : ℕ) → ((i : ℕ) → i < m → equal_at (r + i) ≡ true) → differing left right r (m + n) ≡ differing left right (r + m) n
  skipped r zero n h = rw (zero-add n, add-zero r)
  skipped r (suc m) n h =
      let here : equal_at r ≡ true = rw (add-zero r) at (h 0 (omega arith)) in
      rw (suc-add m n, one_equal r (m + n) here, skipped (suc r) m n (λ i k. ap equal_at (suc-add r i ∙ sym (add-suc r i)) ∙ h (suc i) (omega arith)), suc-add r m, add-suc r m)

  first_here : (rows r : ℕ) → r < rows → equal_at r ≡ false → first_difference left right rows r ≡ Some (record { row = r; left = left r; right = right r })
  unfolding first_difference
  first_here rows r less e = let more : rows - r ≡ suc (rows - (r + 1)) = omega arith in rw (more, one_differs r (rows - (r + 1)) e)

  module _ (rows r size : ℕ) (to : r + size ≤ rows) {n : ℕ} (f : EqualFor left right r size n) where
    behind : first_difference left right rows r ≡ first_difference left right rows (r + n)
    unfolding first_difference
    behind =
        let parts : rows - r ≡ n + (rows - (r + n)) = omega (arith, f.most) in
        rw (parts, skipped r n (rows - (r + n)) f.before)

    -- all of them are equal
    passed : size ≤ n → first_difference left right rows r ≡ first_difference left right rows (r + size)
    passed all = let same : n ≡ size = omega (arith, f.most) in behind ∙ ap (λ (k : ℕ). first_difference left right rows (r + k)) same

    -- one differs
    found : n < size → first_difference left right rows r ≡ Some (record { row = r + n; left = left (r + n); right = right (r + n) })
    found less = behind ∙ first_here rows (r + n) (omega arith) (f.next less)

  -- no rows are left
  none_left : (rows r : ℕ) → rows ≤ r → first_difference left right rows r ≡ None
  unfolding first_difference rows_passing
  none_left rows r h = let over : rows - r ≡ 0 = omega arith in rw over

  module _ (rows from : ℕ) where
    module _ (w : Walk) where
      abbrev Over : Type 0
      Over = difference_meaning w.answer ≡ first_difference left right rows from

      pub is_on_hand : Seeking left right rows from w → w.going ≡ true → OnHand left right rows from w
      is_on_hand f e = when (OnHand left right rows from w) Over w.going e f.phase

    -- ---- going on with a row

    goes_on : (at : ℕ) → first_difference left right rows from ≡ first_difference left right rows at → Seeking left right rows from (onwards at rows)
    goes_on at rest = go (ltb at rows) refl
      where
        go : (t : Bool) → ltb at rows ≡ t → Seeking left right rows from (onwards at rows)
        go true e = record { phase = as_when (OnHand left right rows from (onwards at rows)) (Over (onwards at rows)) (ltb at rows) e (record { going = record { on = e; to = ltb-true at rows e; all = refl }; rest = rest }) }
        go false e = record { phase = as_unless (OnHand left right rows from (onwards at rows)) (Over (onwards at rows)) (ltb at rows) e (sym (rest ∙ none_left rows at (ltb-false at rows e))) }

    module _ {w : Walk} (f : OnHand left right rows from w) {size n : ℕ} (to : w.at + size ≤ w.end) (looked : EqualFor left right w.at size n) where
      within : w.at + size ≤ rows
      within = omega (arith, f.going.all)

      -- behind rows that are all equal
      pub goes_behind : size ≤ n → Seeking left right rows from (onwards (w.at + size) w.end)
      goes_behind all = rw f.going.all (goes_on (w.at + size) (f.rest ∙ passed rows w.at size within looked all))

      -- at a row that differs
      pub stops_at : n < size → {x y : Result ℕ Refusal} → answered_by x ≡ left (w.at + n) → answered_by y ≡ right (w.at + n)
          → Seeking left right rows from (record { at = w.at + n; end = w.end; going = false; answer = Some (record { row = w.at + n; left = x; right = y }) })
      stops_at less {x} {y} l r = record { phase = rw (l, r) (sym (f.rest ∙ found rows w.at size within looked less)) }

  -- ---- how it begins

  pub starts : (rows from : ℕ) → Seeking left right rows from (onwards from rows)
  starts rows from = goes_on rows from from refl

-- ---- what is left falls

pub go_less : (at end size : ℕ) → 0 < size → at + size ≤ end → to_go (onwards (at + size) end) < end - at
go_less at end size more to = go (ltb (at + size) end)
  where
    go : (t : Bool) → pick t (end - (at + size)) 0 < end - at
    go true = omega arith
    go false = omega arith

pub less_to_go : {m : ℕ} (w : Walk) → w.going ≡ true → m < w.end - w.at → m < to_go w
less_to_go w on less = rw on less

-- rows that lie in a window lie before the end
pub up_to_end : {rows : ℕ} {w : Walk} (size : ℕ) → UnderWay rows w → (w.at < rows → w.at + size ≤ rows) → w.at + size ≤ w.end
up_to_end {rows} {w} size u inside = let far : w.at + size ≤ rows = inside (omega (arith, u.to, u.all)) in omega (arith, u.all)
