-- How many bytes a block takes in area and footer, and all blocks together.
--     block_width_lem, area_most, entry_length     a block
--     areas_few, entries_few                   all blocks, by rows and by blocks
--     shares                                   they are the blocks' shares of Blockwise's size
-- Assumes nothing.
use Prim.Native.Nat.{ℕ, zero, suc, ◌+◌, ◌*◌, ◌≤◌}
use mathlib.Core.Path.{◌≡◌, refl}
use mathlib.Core.List.{List, [], ◌∷◌}
use native.Mathlib.Nat.{mul-le-mul_right}
use native.Mathlib.Omega.{arith}
use lib.ListN.{length, take, drop, length-append, length-take, length-drop}
use Rattle.format.specs.Line.{trained, spell_line}
use Rattle.format.specs.Bodies.{block_width, block_area, block_entry, blocks_in, block_count, blocks, joined, footer}
use Rattle.format.specs.Writing.{block_size, block_sizes}
use Rattle.format.proofs.Widths.{legal_most}
use Rattle.format.proofs.WrittenBlocks.{length-blocks, joined_most, length_area, block_width-legal, entry_most}

-- ---- a block

pub block_width_lem : (ys : List ℕ) → block_width ys ≤ 64
block_width_lem ys = legal_most (block_width ys) (block_width-legal ys)

-- at most eight bytes a row
pub area_most : (ys : List ℕ) → length (block_area ys) ≤ 8 * length ys
area_most ys = omega (arith, length_area ys, mul-le-mul_right (length ys) (block_width_lem ys))

pub entry_length : (ys : List ℕ) → length (block_entry ys) ≡ length (spell_line (trained ys)) + 1
unfolding block_entry
entry_length ys = length-append (spell_line (trained ys)) (block_width ys ∷ [])

-- ---- all blocks

areas_in : (k : ℕ) (vs : List ℕ) → length (joined block_area (blocks_in k vs)) ≤ 8 * length vs
unfolding joined blocks_in
areas_in zero vs = omega arith
areas_in (suc k) vs =
    omega (arith, length-append (block_area (take 512 vs)) (joined block_area (blocks_in k (drop 512 vs))), area_most (take 512 vs), areas_in k (drop 512 vs), length-take 512 vs, length-drop 512 vs)

-- at most eight bytes a row
pub areas_few : (vs : List ℕ) → length (joined block_area (blocks vs)) ≤ 8 * length vs
unfolding blocks
areas_few vs = areas_in (block_count (length vs)) vs

-- at most 21 bytes a block
pub entries_few : (vs : List ℕ) → length (footer (blocks vs)) ≤ 21 * block_count (length vs)
unfolding footer blocks
entries_few vs = omega (arith, joined_most block_entry 21 entry_most (blocks vs), length-blocks (block_count (length vs)) vs)

-- the blocks' shares of an estimate are their bytes in area and footer
pub shares : (bs : List (List ℕ)) → length (joined block_area bs) + length (joined block_entry bs) ≡ block_sizes bs
unfolding joined block_sizes block_size
shares [] = refl
shares (b ∷ bs) =
    omega (arith, shares bs, length-append (block_area b) (joined block_area bs), length-append (block_entry b) (joined block_entry bs), length_area b, entry_length b)
