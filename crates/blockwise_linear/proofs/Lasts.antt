-- What is known while a footer is read for its end alone; a block carries it on.
--     LastSoFar, ending_more, -refused, -ends
--     last_refused, last_found
-- Assumes nothing.
use mathlib.Core.Path.{◌≡◌, sym, ap, ◌∙◌}
use mathlib.Core.List.{List}
use Prim.Native.Nat.{ℕ, suc, ◌+◌, ◌-◌, ◌≤◌, ◌<◌}
use native.Mathlib.Omega.{arith}
use lib.ListN.{length}
use Rattle.format.specs.declared.Fields.{Fields}
use Rattle.format.specs.Outcome.{Outcome.value, Outcome.refusal}
use Rattle.format.specs.Bodies.{block_count}
use Rattle.format.specs.Opening.{read_fields}
use Rattle.format.specs.Sheets.{last_fields}
use Rattle.blockwise_linear.specs.Reader.{up_to_length, first_cursor, last_from, last_in}

-- of k blocks i are read, the last of them of width `bits`, and the next is at `at`
pub record LastSoFar (s : List ℕ) (k start i bits at : ℕ) : Type 0 where
  pub rest : last_fields k s 0 start ≡ last_fields (k - i) s bits at

module _ {s : List ℕ} {k start i bits at : ℕ} (e : LastSoFar s k start i bits at) where
  -- a block more
  one_more : i < k → last_fields k s 0 start ≡ last_fields (suc (k - (i + 1))) s bits at
  one_more more =
      let one : k - i ≡ suc (k - (i + 1)) = omega arith in
      e.rest ∙ ap (λ (n : ℕ). last_fields n s bits at) one

  pub ending_more : (f : Fields) → i < k → read_fields s at ≡ value f → LastSoFar s k start (i + 1) f.bits f.next
  unfolding last_fields
  ending_more f more is =
      let next : last_fields (suc (k - (i + 1))) s bits at ≡ last_fields (k - (i + 1)) s f.bits f.next = rw is in
      record { rest = one_more more ∙ next }

  pub ending_refused : (n : ℕ) (also : List ℕ) → i < k → read_fields s at ≡ refusal n also → last_fields k s 0 start ≡ refusal n also
  unfolding last_fields
  ending_refused n also more is =
      let next : last_fields (suc (k - (i + 1))) s bits at ≡ refusal n also = rw is in
      one_more more ∙ next

  pub ending-ends : k ≤ i → last_fields k s 0 start ≡ value (bits, at)
  unfolding last_fields
  ending-ends nothing =
      let none : k - i ≡ 0 = omega arith in
      e.rest ∙ ap (λ (n : ℕ). last_fields n s bits at) none

-- ---- the answer

module _ (s : List ℕ) (rows start : ℕ) (is : start ≡ (first_cursor s rows).at) where
  pub last_refused : (n : ℕ) (also : List ℕ) → last_fields (block_count rows) (up_to_length s) 0 start ≡ refusal n also → last_in s rows ≡ refusal n also
  last_refused n also e =
      let bare : last_from s rows start ≡ refusal n also = rw e in
      ap (last_from s rows) (sym is) ∙ bare

  pub last_found : (bits at end : ℕ) → end ≡ length s - 4 → last_fields (block_count rows) (up_to_length s) 0 start ≡ value (bits, at)
      → last_in s rows ≡ value (record { bits = bits; at = at; start = start; end = end })
  last_found bits at end ends e =
      let bare : last_from s rows start ≡ value (record { bits = bits; at = at; start = start; end = end }) = rw (e, ends) in
      ap (last_from s rows) (sym is) ∙ bare
