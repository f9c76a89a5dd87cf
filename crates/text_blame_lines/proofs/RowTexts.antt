-- The lines of rows, one behind the other.
--     Written, written-starts, written_more      the loop that writes them
-- Assumes nothing.
use Prim.Native.Nat.{ℕ, ◌+◌, ◌-◌, ◌≤◌}
use mathlib.Core.Path.{◌≡◌, refl, sym, ap, ◌∙◌}
use mathlib.Core.List.{List, ◌++◌, append-nil}
use native.Mathlib.Nat.{add-zero}
use native.Mathlib.Omega.{arith}
use Rattle.format.specs.Listing.{row_texts}
use Rattle.format.specs.Outcome.{Wrote}
use Rattle.format.proofs.Stores.{wrote_then}
use Rattle.text.proofs.Chunks.{texts_split}

-- the text of k rows from r on is written
abbrev pub Written : (text : ℕ → List ℕ) (old : List ℕ) (at r k : ℕ) (new : List ℕ) (end : ℕ) → Type 0
Written text old at r k new end = Wrote old at (row_texts text r k) new end

pub written-starts : (text : ℕ → List ℕ) (old : List ℕ) (at r : ℕ) → Written text old at r (r - r) old at
unfolding row_texts
written-starts text old at r =
    let none : r - r ≡ 0 = omega arith in
    rw none (record { ends = sym (add-zero at); list = refl })

-- a row further
one : (text : ℕ → List ℕ) (r k : ℕ) → row_texts text r k ++ text (r + k) ≡ row_texts text r (k + 1)
unfolding row_texts
one text r k = ap (λ (l : List ℕ). row_texts text r k ++ l) (sym (append-nil (text (r + k)))) ∙ sym (texts_split text r k 1)

pub written_more : (text : ℕ → List ℕ) (r row : ℕ) {old mid new : List ℕ} {at end next : ℕ} → r ≤ row → Written text old at r (row - r) mid end → Wrote mid end (text row) new next
    → Written text old at r (row + 1 - r) new next
written_more text r row h before here =
    let k = row - r in
    let there : row ≡ r + k = omega arith in
    let more : row + 1 - r ≡ k + 1 = omega arith in
    rw (more, ← one text r k) (wrote_then before (rw there at here))
