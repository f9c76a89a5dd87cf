-- A list's blocks one by one.
--     part_map                                             a part of changed values
--     blocks_next, blocks_none, joined_next, joined_none   the blocks from a row on
--     residuals_count                                      a block's residuals
-- Assumes nothing.
use Prim.Native.Nat.{ℕ, suc, ◌+◌, ◌-◌, ◌≤◌, ◌<◌, min}
use mathlib.Core.Path.{◌≡◌, sym, ap, ◌∙◌}
use mathlib.Core.Logic.{⊎_elim}
use mathlib.Core.List.{List, [], ◌∷◌, ◌++◌, map}
use native.Mathlib.Omega.{arith}
use lib.ListN.{length, take, drop, length-drop, drop_of_length-le}
use lib.Seq.{take_all, drop-drop}
use Rattle.format.specs.Line.{trained}
use Rattle.format.specs.Bodies.{block_residuals, blocks_in, block_count, blocks, joined}
use Rattle.format.proofs.Lists.{take-map, drop-map, below_or}
use Rattle.format.proofs.Lines.{residuals-length}

-- ---- a part of changed values

pub part_map : (f : ℕ → ℕ) (at n : ℕ) (vs : List ℕ) → map f (take n (drop at vs)) ≡ take n (drop at (map f vs))
part_map f at n vs = take-map f n (drop at vs) ∙ ap (take n) (drop-map f at vs)

-- ---- the blocks from a row on

-- rows are left: the next block, and the blocks behind it
pub blocks_next : (xs : List ℕ) (at size : ℕ) → at < length xs → size ≡ min 512 (length xs - at)
    → blocks (drop at xs) ≡ take size (drop at xs) ∷ blocks (drop (at + 512) xs)
unfolding blocks blocks_in
blocks_next xs at size h e =
    let left = length-drop at xs in
    let behind = length-drop (at + 512) xs in
    let count : block_count (length (drop at xs)) ≡ suc (block_count (length (drop (at + 512) xs))) = omega arith in
    ⊎_elim
    (λ (short : length xs - at < 512).
    let none_left : length (drop at xs) ≤ 512 = omega arith in
    let all : take 512 (drop at xs) ≡ take size (drop at xs) = take_all 512 (drop at xs) none_left ∙ sym (take_all size (drop at xs) (omega arith)) in
    rw (count, all, drop-drop 512 at xs))
    (λ (full : 512 ≤ length xs - at).
    let whole : size ≡ 512 = omega arith in
    rw (count, whole, drop-drop 512 at xs))
    (below_or (length xs - at) 512)

-- no rows are left
pub blocks_none : (xs : List ℕ) (at : ℕ) → length xs ≤ at → blocks (drop at xs) ≡ []
unfolding blocks blocks_in
blocks_none xs at h = rw (drop_of_length-le xs h)

-- what f makes of the next block stands before what it makes of the blocks behind it
pub joined_next : (f : List ℕ → List ℕ) (xs : List ℕ) (at size : ℕ) → at < length xs → size ≡ min 512 (length xs - at)
    → joined f (blocks (drop at xs)) ≡ f (take size (drop at xs)) ++ joined f (blocks (drop (at + 512) xs))
unfolding joined
joined_next f xs at size h e = rw (blocks_next xs at size h e)

pub joined_none : (f : List ℕ → List ℕ) (xs : List ℕ) (at : ℕ) → length xs ≤ at → joined f (blocks (drop at xs)) ≡ []
unfolding joined
joined_none f xs at h = rw (blocks_none xs at h)

-- ---- a block

pub residuals_count : (ys : List ℕ) → length (block_residuals ys) ≡ length ys
unfolding block_residuals
residuals_count ys = residuals-length (trained ys) ys
