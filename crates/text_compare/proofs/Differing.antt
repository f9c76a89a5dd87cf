-- The rows at which two readings differ: how many there are, and their lines.
--     count_none, count_next, count_split     none of no rows; one row more; some rows, and then more
--     count_most                  no more than there are rows
--     pair_texts                  their lines are the text of all rows, of which equal ones have none
--     none_differ, all_equal      there are none exactly if the answers at all rows are equal
-- Assumes nothing.
use Prim.Native.Nat.{ℕ, zero, suc, ◌+◌, ◌-◌, ◌≤◌, ◌<◌}
use mathlib.Core.Path.{◌≡◌, refl, sym, ap, ◌∙◌}
use mathlib.Core.Bool.{Bool, true, false, not}
use mathlib.Core.List.{List, [], ◌∷◌, ◌++◌}
use native.Mathlib.Nat.{add-zero, zero-add, suc-add, add-suc}
use native.Mathlib.Omega.{arith}
use lib.ListN.{length}
use Rattle.format.specs.Outcome.{Outcome, pick}
use Rattle.format.specs.Lookup.{rows_passing}
use Rattle.format.specs.Listing.{row_texts}
use Rattle.format.specs.Comparing.{equal_answers, pair_line, differing, pair_lines}
use Rattle.text_compare.specs.Chunk.{text_of}

module _ (left right : ℕ → Outcome ℕ) where
  -- whether the answers at a row are equal
  abbrev equal_at : ℕ → Bool
  equal_at r = equal_answers (left r) (right r)

  -- ---- how many

  count_one : (t : Bool) (r : ℕ) (rs : List ℕ) → length (pick (not t) (r ∷ rs) rs) ≡ pick t 0 1 + length rs
  count_one true r rs = omega arith
  count_one false r rs = omega arith

  -- the first row, and the rows behind it
  count_first : (r n : ℕ) → length (differing left right r (suc n)) ≡ pick (equal_at r) 0 1 + length (differing left right (suc r) n)
  unfolding rows_passing
  count_first r n = count_one (equal_at r) r (differing left right (suc r) n)

  -- none of no rows
  pub count_none : (r : ℕ) → length (differing left right r 0) ≡ 0
  unfolding rows_passing
  count_none r = refl

  -- some rows, and then more
  pub count_split : (r m n : ℕ) → length (differing left right r (m + n)) ≡ length (differing left right r m) + length (differing left right (r + m) n)
  count_split r zero n =
      let same : differing left right r (0 + n) ≡ differing left right r n = ap (differing left right r) (zero-add n) in
      let here : differing left right (r + 0) n ≡ differing left right r n = ap (λ (k : ℕ). differing left right k n) (add-zero r) in
      omega (arith, ap length same, ap length here, count_none r)
  count_split r (suc m) n =
      let more : differing left right r (suc m + n) ≡ differing left right r (suc (m + n)) = ap (differing left right r) (suc-add m n) in
      let behind : differing left right (suc r + m) n ≡ differing left right (r + suc m) n = ap (λ (k : ℕ). differing left right k n) (suc-add r m ∙ sym (add-suc r m)) in
      omega (arith, ap length more, ap length behind, count_first r (m + n), count_first r m, count_split (suc r) m n)

  -- one row more
  pub count_next : (r n : ℕ) → length (differing left right r (n + 1)) ≡ length (differing left right r n) + pick (equal_at (r + n)) 0 1
  count_next r n = omega (arith, count_split r n 1, count_first (r + n) 0, count_none (suc (r + n)))

  -- no more than there are rows
  pub count_most : (n r : ℕ) → length (differing left right r n) ≤ n
  count_most zero r = omega (arith, count_none r)
  count_most (suc n) r = omega (arith, count_first r n, one (equal_at r), count_most n (suc r))
    where
      one : (t : Bool) → pick t 0 1 ≤ 1
      one true = omega arith
      one false = omega arith

  -- ---- their lines

  lines_one : (t : Bool) (r : ℕ) (rs : List ℕ) → pair_lines left right (pick (not t) (r ∷ rs) rs) ≡ pick t [] (pair_line r (left r) (right r)) ++ pair_lines left right rs
  unfolding pair_lines
  lines_one true r rs = refl
  lines_one false r rs = refl

  pub pair_texts : (r n : ℕ) → pair_lines left right (differing left right r n) ≡ row_texts (text_of left right) r n
  unfolding rows_passing pair_lines row_texts
  pair_texts r zero = refl
  pair_texts r (suc n) =
      lines_one (equal_at r) r (differing left right (suc r) n)
      ∙ ap (λ (l : List ℕ). text_of left right r ++ l) (pair_texts (suc r) n)

  -- ---- none

  pub none_differ : (r n : ℕ) → ((x : ℕ) → r ≤ x → x < r + n → equal_at x ≡ true) → differing left right r n ≡ []
  unfolding rows_passing
  none_differ r zero h = refl
  none_differ r (suc n) h = rw (h r (omega arith) (omega arith)) (none_differ (suc r) n (λ x low high. h x (omega arith) (omega arith)))

  pub all_equal : (n r : ℕ) → length (differing left right r n) ≡ 0 → (x : ℕ) → x < n → equal_at (r + x) ≡ true
  all_equal n r none x h = go (equal_at (r + x)) refl
    where
      go : (t : Bool) → equal_at (r + x) ≡ t → equal_at (r + x) ≡ true
      go true e = e
      go false e =
          let one : ◌≡◌ {A = ℕ} (pick (equal_at (r + x)) 0 1) 1 = ap (λ (t : Bool). pick {A = ℕ} t 0 1) e in
          let least : (m : ℕ) → x + 1 + m ≡ n → ⊥ =
          (λ m s. let same : length (differing left right r (x + 1 + m)) ≡ length (differing left right r n) = ap (λ (k : ℕ). length (differing left right r k)) s in
          omega (arith, count_split r (x + 1) m, count_next r x)) in
          absurd (least (n - (x + 1)) (omega arith))
