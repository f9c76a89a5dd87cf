-- A search among a table's blocks alone: blocks past its end have no rows.
--     search_cut      as many blocks as a table has, or fewer, come to the same as all
-- Assumes nothing.
use Rattle.std.specs.Option.{option_or}
use Rattle.format.specs.Refusals.{answered_by}
use Rattle.std.specs.Prelude.{Option, None}
use Prim.Native.Nat.{ℕ, zero, suc, ◌+◌, ◌-◌, ◌*◌, ◌≤◌, ◌<◌, min, max}
use mathlib.Core.Path.{◌≡◌, refl, sym, ap, ◌∙◌, subst}
use mathlib.Core.List.{List}
use native.Mathlib.Omega.{arith}
use lib.ListN.{length, get_or-eq_default}
use Rattle.format.specs.declared.Block.{Block}
use Rattle.format.specs.Reading.{no_block, block_at}
use Rattle.format.specs.Word.{bytes_for}
use Rattle.format.specs.Parts.{run_owners, block_run, block_owners}
use Rattle.format.proofs.Owning.{run_none}
use Rattle.byte_owner.specs.declared.Search.{Search}
use Rattle.byte_owner.specs.Search.{or_left, searched, Searching}

module _ (t : List Block) (rows j : ℕ) where
  -- a block of zeros has no bits
  past_none : (k : ℕ) → length t ≤ k → run_owners (block_run t rows k) j ≡ None
  past_none k h =
      let zeros : no_block ≡ block_at t k = sym (get_or-eq_default t no_block h) in
      run_none (block_run t rows k) j (subst (λ (b : Block). b.start + bytes_for (b.bits * min (rows - 512 * k) 512) ≤ j) zeros (omega arith))

  all_past : (n k : ℕ) → length t ≤ k → block_owners t rows k n j ≡ None
  unfolding block_owners
  all_past zero k h = refl
  all_past (suc n) k h = ap (λ (o : Option (ℕ × ℕ)). option_or o (block_owners t rows (suc k) n j)) (past_none k h) ∙ all_past n (suc k) (omega arith)

  -- the first d blocks from block k on, and n past the table's end
  cut : (d n k : ℕ) → length t ≤ k + d → block_owners t rows k d j ≡ block_owners t rows k (d + n) j
  unfolding block_owners
  cut zero n k h =
      let none : n ≡ zero + n = omega arith in
      sym (all_past n k (omega arith)) ∙ ap (λ (m : ℕ). block_owners t rows k m j) none
  cut (suc d) n k h =
      let more : suc (d + n) ≡ suc d + n = omega arith in
      ap (option_or (run_owners (block_run t rows k) j)) (cut d n (suc k) (omega arith)) ∙ ap (λ (m : ℕ). block_owners t rows k m j) more

pub search_cut : {rows : ℕ} {w : Search} → Searching rows w → (blocks : ℕ) → blocks < w.next + w.left
    → let u : Search = record { next = w.next; left = max w.next blocks - w.next; byte = w.byte; answer = w.answer } in
    Searching rows u × ((t : List Block) → length t ≡ blocks → searched t rows u ≡ searched t rows w)
search_cut {rows} {w} f blocks few =
    let d = max w.next blocks - w.next in
    let all : d + (w.left - d) ≡ w.left = omega arith in (
      record { inside = omega (arith, f.inside); none = λ h. f.none (omega arith) },
      λ t long.
          ap (or_left (answered_by w.answer))
          (cut t rows w.byte d (w.left - d) w.next (omega arith) ∙ ap (λ (m : ℕ). block_owners t rows w.next m w.byte) all),
    )
