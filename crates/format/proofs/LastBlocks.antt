-- The last block that Blockwise writes, as sheet 2 sees it.
--     last_width, last_width_lem, read_last          where a footer stands, the last block's width and the footer's end are found
--     last_bits, last_clean                     the bits behind the last block's rows are 0
-- Assumes nothing.
use Rattle.std.specs.Prelude.{None}
use mathlib.Core.Path.{◌≡◌, refl, sym, ap, ap₂, ◌∙◌}
use mathlib.Core.List.{List, [], ◌∷◌, ◌++◌, append_assoc}
use Prim.Native.Nat.{ℕ, zero, suc, ◌+◌, ◌-◌, ◌*◌, ◌%◌}
use native.Mathlib.Nat.{add-zero, mul-add, mul_assoc, mul_comm}
use native.Mathlib.Omega.{arith}
use lib.ListN.{length, take, drop, length-append}
use lib.Seq.{drop-drop}
use Rattle.format.specs.Outcome.{Outcome.value}
use Rattle.format.specs.Word.{bytes_for}
use Rattle.format.specs.Packing.{packed}
use Rattle.format.specs.Line.{trained, residuals}
use Rattle.format.specs.Bodies.{blocks_in, block_residuals, block_width, block_area, block_entry, joined, footer}
use Rattle.format.specs.Sheets.{overfull, last_fields}
use Rattle.format.proofs.Lists.{drop_past}
use Rattle.format.proofs.Packing.{length-packed}
use Rattle.format.proofs.Lines.{residuals-length}
use Rattle.format.proofs.WrittenBlocks.{block_of, read_entry, area_split, area_block}
use Rattle.format.proofs.Sheets.{overfull-packed}

-- ---- the footer's last fields

-- the width of the last of k blocks of a list, `bits` where there is none
unfoldable pub last_width : (bits k : ℕ) → List ℕ → ℕ
last_width bits zero ns = bits
last_width bits (suc k) ns = last_width (block_width (take 512 ns)) k (drop 512 ns)

pub last_width_lem : (bits k : ℕ) (ns : List ℕ) → last_width bits (suc k) ns ≡ block_width (block_of k ns)
unfolding last_width
last_width_lem bits zero ns = refl
last_width_lem bits (suc k) ns =
    let place : 512 + 512 * k ≡ 512 * suc k = omega arith in
    last_width_lem (block_width (take 512 ns)) k (drop 512 ns)
    ∙ ap (λ (l : List ℕ). block_width (take 512 l)) (drop-drop (512 * k) 512 ns ∙ ap (λ (n : ℕ). drop n ns) place)

-- where a footer stands, it is found, and the offset behind the footer, whatever follows
pub read_last : (k : ℕ) (ns s : List ℕ) (bits at : ℕ) (more : List ℕ) → drop at s ≡ footer (blocks_in k ns) ++ more
    → last_fields k s bits at ≡ value (last_width bits k ns, at + length (footer (blocks_in k ns)))
unfolding last_fields last_width blocks_in footer joined
read_last zero ns s bits at more e = rw (add-zero at)
read_last (suc k) ns s bits at more e =
    let b = take 512 ns in
    let rest = joined block_entry (blocks_in k (drop 512 ns)) in
    let here : drop at s ≡ block_entry b ++ (rest ++ more) = e ∙ append_assoc (block_entry b) rest more in
    let ih = read_last k (drop 512 ns) s (block_width b) (at + length (block_entry b)) more (drop_past s at (block_entry b) _ here) in
    let moved : at + length (block_entry b) + length rest ≡ at + length (block_entry b ++ rest) = omega (arith, length-append (block_entry b) rest) in
    rw (read_entry s at b _ here, ih, moved)

-- ---- the last block's area

-- full blocks before the last do not count: 512 rows fill whole bytes
pub last_bits : (w j m n : ℕ) → n ≡ 512 * j + m → w * n % 8 ≡ w * m % 8
last_bits w j m n e =
    let parts : w * n ≡ w * (512 * j) + w * m = rw e (mul-add w (512 * j) m) in
    let full : w * (512 * j) ≡ 512 * (w * j) = ap (λ (x : ℕ). w * x) (mul_comm 512 j) ∙ omega (arith, mul_assoc w j 512) in
    omega arith

-- the areas of some blocks between other bytes: nothing is left in their last byte
pub last_clean : (front more : List ℕ) (before : List (List ℕ)) (block : List ℕ) (bits : ℕ) → bits ≡ block_width block * length block % 8
    → overfull (front ++ (joined block_area (before ++ (block ∷ [])) ++ more)) (length front + length (joined block_area (before ++ (block ∷ []))) - 1) bits ≡ None
unfolding joined block_area block_residuals
last_clean front more before block bits is =
    let start = length (joined block_area before) in
    let areas = joined block_area (before ++ (block ∷ [])) in
    let s = front ++ (areas ++ more) in
    let w = block_width block in
    let xs = residuals (trained block) block in
    let rows : length xs ≡ length block = residuals-length (trained block) block in
    let bare : overfull s (length front + start + bytes_for (w * length xs) - 1) (w * length xs % 8) ≡ None =
    overfull-packed s (length front + start) w xs _ (area_block before block [] front more) in
    let long : length areas ≡ start + bytes_for (w * length xs) =
    ap length (area_split before block []) ∙ omega (arith, length-append (joined block_area before) (packed w xs ++ []), length-append (packed w xs) [], length-packed w xs) in
    let place : length front + start + bytes_for (w * length xs) - 1 ≡ length front + length areas - 1 = omega arith in
    let same : w * length xs % 8 ≡ bits = rw rows (omega (arith, is)) in
    ap₂ (overfull s) (sym place) (sym same) ∙ bare
