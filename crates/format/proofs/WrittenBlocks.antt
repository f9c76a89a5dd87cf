-- The blocks that Blockwise writes: how they part a list, that their footer is read back, and where a block stands in table and area.
--     blocks_split, length-blocks, block_of, later_of, parted, row_inside_block, row_of_block     how blocks part a list
--     joined-append, joined_most                                                                lists one after another
--     length_area, residuals_fit, block_back                                                    a block's packed bytes, and that line and bytes make its values
--     block_width-legal, entry_most, read_entry, block_for, table_from, read_blocks_lem                the footer is read back
--     table_block, area_block                                                                   where a block among others stands in table and area
-- Assumes nothing.
use Rattle.std.specs.Prelude.{None}
use mathlib.Core.Path.{◌≡◌, refl, sym, ap, ◌∙◌}
use mathlib.Core.Bool.{true}
use mathlib.Core.List.{List, [], ◌∷◌, ◌++◌, append_assoc}
use Prim.Native.Nat.{ℕ, zero, suc, ◌+◌, ◌-◌, ◌*◌, ◌/◌, ◌%◌, ◌^◌, ◌≤◌, ◌<◌, min}
use native.Mathlib.Nat.{zero-add, add-zero, suc-add, min_comm}
use native.Mathlib.Omega.{arith}
use lib.ListN.{length, take, drop, get_or, length-append, length-take, length-drop}
use lib.Seq.{drop-drop, drop-append-add, drop-append_seam, get_or-take, get_or-drop, get_or-append_seam}
use Rattle.format.specs.declared.Block.{Block}
use Rattle.format.specs.declared.Fields.{Fields}
use Rattle.format.specs.Outcome.{Outcome.value}
use Rattle.format.specs.Word.{bytes_for, mod_add, AllBelow}
use Rattle.format.specs.Varint.{spell}
use Rattle.format.specs.Packing.{legal, unpack}
use Rattle.format.specs.Stats.{greatest}
use Rattle.format.specs.Line.{line_at, trained, residuals, spell_line}
use Rattle.format.specs.Bodies.{blocks, blocks_in, block_count, block_residuals, block_width, block_area, block_entry, joined, footer}
use Rattle.format.specs.Opening.{read_fields, Table, read_blocks}
use Rattle.format.specs.Reading.{no_block, block_at}
use Rattle.format.proofs.Lists.{drop_past}
use Rattle.format.proofs.Packing.{length-packed, round_trip}
use Rattle.format.proofs.Widths.{width-legal, width_fits}
use Rattle.format.proofs.Varints.{spell_ten}
use Rattle.format.proofs.Statistics.{greatest-least, greatest_below}
use Rattle.format.proofs.Lines.{residuals-length, residual_at, residual_below, restored, trained_below}
use Rattle.format.proofs.LineFields.{read_fields_lem}

-- ---- parting a list into blocks

-- the first q blocks, and those of the rest
pub blocks_split : (q m : ℕ) (ns : List ℕ) → blocks_in (q + m) ns ≡ blocks_in q ns ++ blocks_in m (drop (512 * q) ns)
unfolding blocks_in
blocks_split zero m ns = rw (zero-add m)
blocks_split (suc q) m ns =
    let place : 512 + 512 * q ≡ 512 * suc q = omega arith in
    let rest : drop (512 * q) (drop 512 ns) ≡ drop (512 * suc q) ns = drop-drop (512 * q) 512 ns ∙ ap (λ (n : ℕ). drop n ns) place in
    rw (suc-add q m, ← rest) (ap (λ (l : List (List ℕ)). take 512 ns ∷ l) (blocks_split q m (drop 512 ns)))

pub length-blocks : (k : ℕ) (ns : List ℕ) → length (blocks_in k ns) ≡ k
unfolding blocks_in
length-blocks zero ns = refl
length-blocks (suc k) ns = ap suc (length-blocks k (drop 512 ns))

pub joined-append : (f : List ℕ → List ℕ) (a b : List (List ℕ)) → joined f (a ++ b) ≡ joined f a ++ joined f b
unfolding joined
joined-append f [] b = refl
joined-append f (x ∷ a) b = ap (λ (l : List ℕ). f x ++ l) (joined-append f a b) ∙ sym (append_assoc (f x) (joined f a) (joined f b))

-- lists of at most n elements each, joined
pub joined_most : (f : List ℕ → List ℕ) (n : ℕ) → ((b : List ℕ) → length (f b) ≤ n) → (bs : List (List ℕ)) → length (joined f bs) ≤ n * length bs
unfolding joined
joined_most f n each [] = omega arith
joined_most f n each (b ∷ bs) =
    let ih = joined_most f n each bs in
    let one = each b in
    let a = length-append (f b) (joined f bs) in
    rw a (omega arith)

-- ---- a block's area

pub length_area : (ys : List ℕ) → length (block_area ys) ≡ bytes_for (block_width ys * length ys)
unfolding block_area block_residuals
length_area ys = length-packed (block_width ys) (residuals (trained ys) ys) ∙ ap (λ (n : ℕ). bytes_for (block_width ys * n)) (residuals-length (trained ys) ys)

-- a block's residuals fit its width
pub residuals_fit : (ys : List ℕ) → AllBelow (2 ^ block_width ys) (block_residuals ys)
unfolding block_residuals block_width
residuals_fit ys i h = width_fits (greatest (block_residuals ys)) _ (greatest_below (block_residuals ys) (residual_below (trained ys) ys)) (greatest-least (block_residuals ys) i h)

-- the line and what is unpacked from a block's area make the value, whatever bytes follow
pub block_back : (ys rest : List ℕ) (j : ℕ) → j < length ys → get_or ys j 0 < 2 ^ 64 → mod_add (line_at (trained ys) j) (unpack (block_width ys) (block_area ys ++ rest) j) ≡ get_or ys j 0
unfolding block_area block_residuals
block_back ys rest j h fit =
    let inside : j < length (residuals (trained ys) ys) = rw residuals-length h in
    rw (round_trip (block_width ys) (residuals (trained ys) ys) rest j inside (residuals_fit ys j inside)) (rw (residual_at (trained ys) ys j h) (restored (trained ys) j (get_or ys j 0) fit))

-- ---- a block's fields

pub block_width-legal : (ys : List ℕ) → legal (block_width ys) ≡ true
unfolding block_width
block_width-legal ys = width-legal (greatest (block_residuals ys))

-- an entry is at most 21 bytes
pub entry_most : (ys : List ℕ) → length (block_entry ys) ≤ 21
unfolding block_entry spell_line
entry_most ys =
    let a = spell_ten (trained ys).slope in
    let b = spell_ten (trained ys).intercept in
    rw (length-append (spell (trained ys).slope ++ spell (trained ys).intercept) (block_width ys ∷ []), length-append (spell (trained ys).slope) (spell (trained ys).intercept)) (omega arith)

-- a block's fields as they are read at an offset
abbrev pub fields_of : ℕ → List ℕ → Fields
fields_of at ys = record { line = trained ys; bits = block_width ys; next = at + length (block_entry ys); longer = None }

pub read_entry : (s : List ℕ) (at : ℕ) (ys more : List ℕ) → drop at s ≡ block_entry ys ++ more → read_fields s at ≡ value (fields_of at ys)
unfolding block_entry
read_entry s at ys more e =
    let line = spell_line (trained ys) in
    let here : drop at s ≡ line ++ (block_width ys ∷ more) = e ∙ append_assoc line (block_width ys ∷ []) more in
    let end : at + length line + 1 ≡ at + length (line ++ (block_width ys ∷ [])) = omega (arith, length-append line (block_width ys ∷ [])) in
    read_fields_lem s at (trained ys) (block_width ys) more here (trained_below ys) (block_width-legal ys) ∙ rw end

-- ---- the footer

-- a block's line, width and start byte, as opening finds them
abbrev pub block_for : ℕ → List ℕ → Block
block_for start ys = record { line = trained ys; bits = block_width ys; start = start }

-- the table of some blocks, the first block's bytes starting at `start`
unfoldable pub table_from : ℕ → List (List ℕ) → List Block
table_from start [] = []
table_from start (b ∷ bs) = block_for start b ∷ table_from (start + length (block_area b)) bs

pub length_table : (start : ℕ) (bs : List (List ℕ)) → length (table_from start bs) ≡ length bs
unfolding table_from
length_table start [] = refl
length_table start (b ∷ bs) = ap suc (length_table (start + length (block_area b)) bs)

-- later blocks start behind the earlier ones' areas
pub table_append : (start : ℕ) (a b : List (List ℕ)) → table_from start (a ++ b) ≡ table_from start a ++ table_from (start + length (joined block_area a)) b
unfolding table_from joined
table_append start [] b = rw (add-zero start)
table_append start (x ∷ a) b =
    let moved : start + length (block_area x) + length (joined block_area a) ≡ start + length (block_area x ++ joined block_area a) = omega (arith, length-append (block_area x) (joined block_area a)) in
    rw (← moved) (ap (λ (l : List Block). block_for start x ∷ l) (table_append (start + length (block_area x)) a b))

abbrev pub table_of : ℕ → List (List ℕ) → Table
table_of start bs = record { blocks = table_from start bs; area = start + length (joined block_area bs); longer = None }

-- where a footer stands, its blocks' table is read, whatever follows
pub read_blocks_lem : (k : ℕ) (ns s : List ℕ) (at start : ℕ) (more : List ℕ) → drop at s ≡ footer (blocks_in k ns) ++ more → read_blocks k s at start (length ns) ≡ value (table_of start (blocks_in k ns))
unfolding read_blocks blocks_in footer joined table_from
read_blocks_lem zero ns s at start more e = rw (add-zero start)
read_blocks_lem (suc k) ns s at start more e =
    let b = take 512 ns in
    let rest = drop 512 ns in
    let here : drop at s ≡ block_entry b ++ (joined block_entry (blocks_in k rest) ++ more) = e ∙ append_assoc (block_entry b) (joined block_entry (blocks_in k rest)) more in
    let rows : min (length ns) 512 ≡ length b = min_comm (length ns) 512 ∙ sym (length-take 512 ns) in
    let ih = read_blocks_lem k rest s (at + length (block_entry b)) (start + length (block_area b)) more (drop_past s at (block_entry b) _ here) in
    let moved : start + length (block_area b) + length (joined block_area (blocks_in k rest)) ≡ start + length (block_area b ++ joined block_area (blocks_in k rest)) = omega (arith, length-append (block_area b) (joined block_area (blocks_in k rest))) in
    rw (read_entry s at b _ here, rows, ← length_area b, ← length-drop 512 ns, ih, moved)

-- ---- one block among the others

-- block k of a list, and the blocks behind it
abbrev pub block_of : ℕ → List ℕ → List ℕ
block_of k ns = take 512 (drop (512 * k) ns)

abbrev pub later_of : ℕ → List ℕ → List (List ℕ)
later_of k ns = blocks_in (block_count (length ns) - k - 1) (drop 512 (drop (512 * k) ns))

pub parted : (k : ℕ) (ns : List ℕ) → k < block_count (length ns) → blocks ns ≡ blocks_in k ns ++ (block_of k ns ∷ later_of k ns)
unfolding blocks blocks_in
parted k ns h =
    let count : block_count (length ns) ≡ k + suc (block_count (length ns) - k - 1) = omega arith in
    ap (λ (n : ℕ). blocks_in n ns) count ∙ blocks_split k (suc (block_count (length ns) - k - 1)) ns

-- row r is row r % 512 of block r / 512
pub row_inside_block : (ns : List ℕ) (r : ℕ) → r < length ns → r % 512 < length (block_of (r / 512) ns)
row_inside_block ns r h = rw (length-take 512 (drop (512 * (r / 512)) ns), length-drop (512 * (r / 512)) ns) (omega arith)

pub row_of_block : (ns : List ℕ) (r : ℕ) → get_or (block_of (r / 512) ns) (r % 512) 0 ≡ get_or ns r 0
row_of_block ns r =
    let at : 512 * (r / 512) + r % 512 ≡ r = omega arith in
    get_or-take 512 (drop (512 * (r / 512)) ns) (r % 512) 0 (omega arith) ∙ get_or-drop (512 * (r / 512)) ns (r % 512) 0 ∙ ap (λ (n : ℕ). get_or ns n 0) at

module _ (before : List (List ℕ)) (block : List ℕ) (after : List (List ℕ)) where
  -- the blocks' table holds each block
  pub table_block : (k : ℕ) → length before ≡ k → block_at (table_from 0 (before ++ (block ∷ after))) k ≡ block_for (length (joined block_area before)) block
  unfolding table_from
  table_block k e =
      let start = length (joined block_area before) in
      let split : table_from 0 (before ++ (block ∷ after)) ≡ table_from 0 before ++ (block_for start block ∷ table_from (start + length (block_area block)) after) =
      table_append 0 before (block ∷ after) ∙ rw (zero-add start) in
      let place : k ≡ length (table_from 0 before) = sym e ∙ sym (length_table 0 before) in
      rw (split, place) (get_or-append_seam (table_from 0 before) (block_for start block) _ no_block)

  -- the joined areas, parted at a block
  pub area_split : joined block_area (before ++ (block ∷ after)) ≡ joined block_area before ++ (block_area block ++ joined block_area after)
  unfolding joined
  area_split = joined-append block_area before (block ∷ after)

  -- a block's area stands at its start, behind what comes before the areas, with something behind it
  pub area_block : (front more : List ℕ)
      → drop (length front + length (joined block_area before)) (front ++ (joined block_area (before ++ (block ∷ after)) ++ more)) ≡ block_area block ++ (joined block_area after ++ more)
  area_block front more =
      let areas : joined block_area (before ++ (block ∷ after)) ++ more ≡ joined block_area before ++ (block_area block ++ (joined block_area after ++ more)) = rw area_split (simp append_assoc) in
      drop-append-add front _ (length (joined block_area before)) ∙ rw areas (drop-append_seam (joined block_area before) _)
