-- Blockwise's round trip (`blockwise_round`), what its column opens to (`blockwise_opens`), and each block of its table (`blockwise_table`).
-- Assumes nothing.
use Rattle.std.specs.Prelude.{None}
use mathlib.Core.Path.{◌≡◌, refl, sym, ap, ap₂, ◌∙◌}
use mathlib.Core.List.{List, [], ◌∷◌, ◌++◌, append_assoc, append-nil}
use Prim.Native.Nat.{ℕ, zero, suc, ◌+◌, ◌-◌, ◌*◌, ◌/◌, ◌%◌, ◌^◌, ◌≤◌, ◌<◌}
use native.Mathlib.Nat.{zero-add, lt_of_le_of_lt}
use native.Mathlib.Omega.{arith}
use lib.ListN.{length, take, drop, get_or, length-append, length-take, length-drop}
use lib.Seq.{drop-append_seam, take_at}
use borrow.Author.Tests.{le-leb}
use Rattle.format.specs.declared.Block.{Block}
use Rattle.format.specs.declared.Codec.TheVariants.{Blockwise}
use Rattle.format.specs.declared.Head.{Head}
use Rattle.format.specs.declared.Line.{Line}
use Rattle.format.specs.Outcome.{Outcome.value}
use Rattle.format.specs.Word.{mod_add, AllBelow}
use Rattle.format.specs.Packing.{unpack, bytes_num, num_bytes}
use Rattle.format.specs.Line.{line_at, trained}
use Rattle.format.specs.Bodies.{body, blockwise, blocks, blocks_in, block_count, block_width, block_area, block_entry, joined, footer, column_by}
use Rattle.format.specs.Opening.{Loaded, column_of, Table, read_blocks, opened}
use Rattle.format.specs.Sheets.{unclaimed, overfull, last_fields, ending, strict}
use Rattle.format.specs.Reading.{place_in, packed_of, value_in, block_at}
use Rattle.format.specs.Demands.{reads_as}
use Rattle.format.proofs.Gathering.{length-num_bytes, bytes_num-num_bytes}
use Rattle.format.proofs.Statistics.{multiples, multiples_length, multiple_at, multiple_back, multiple_within, count_below}
use Rattle.format.proofs.Heads.{head_bytes, written_head, count_in}
use Rattle.format.proofs.Openings.{Begun, blockwise_of, footer_end, opens_blockwise}
use Rattle.format.proofs.Sheets.{unclaimed_none, clean_column}
use Rattle.format.proofs.LastBlocks.{last_width, last_width_lem, read_last, last_bits, last_clean}
use Rattle.format.proofs.RoundTrip.{RoundTrips, begins}
use Rattle.format.proofs.WrittenBlocks.{length-blocks, joined_most, block_back, entry_most, block_for, table_from, read_blocks_lem, block_of, later_of, parted, row_inside_block, row_of_block, table_block, area_block}

-- ---- opening and reading, over any bytes of the right shape

-- a footer and its length behind the other bytes: the column opens with the footer's table
opens_with : (s front foot : List ℕ) (h : Head) (room : ℕ) (t : Table) → Begun s 2 h → s ≡ (front ++ foot) ++ num_bytes 4 (length foot) → length foot < 2 ^ 32
    → block_count h.rows ≤ room → read_blocks (block_count h.rows) (front ++ foot) (length front) 0 h.rows ≡ value t → h.next + t.area ≤ length front
    → opened s room ≡ value (blockwise_of h t)
opens_with s front foot h room t begun e small enough read area =
    let whole = front ++ foot in
    let four = num_bytes 4 (length foot) in
    let long : length whole ≡ length front + length foot = length-append front foot in
    let all : length s ≡ length whole + 4 = ap length e ∙ length-append whole four ∙ ap (λ (n : ℕ). length whole + n) (length-num_bytes 4 (length foot)) in
    let end : footer_end s ≡ length whole = omega arith in
    let told : bytes_num (drop (length whole) s) ≡ length foot = rw (e, drop-append_seam whole four) (bytes_num-num_bytes 4 (length foot) (omega arith)) in
    let cut : take (length whole) s ≡ whole = rw e (take_at whole four (length whole) refl) in
    let from : length whole - length foot ≡ length front = omega arith in
    opens_blockwise s h room t (record {
      begun = begun;
      four = omega arith;
      footer = rw (end, told) (omega arith);
      enough = enough;
      blocks = rw (end, told, cut, from) read;
      area = rw (end, told, from) area;
    })

-- what is known of its end
ends_with : (s front foot : List ℕ) (count rows bits at : ℕ) → s ≡ (front ++ foot) ++ num_bytes 4 (length foot) → length foot < 2 ^ 32
    → last_fields (block_count rows) (front ++ foot) 0 (length front) ≡ value (bits, at)
    → ending Blockwise count rows s ≡ value (record { bits = bits; resumes = length front; later = unclaimed at (length (front ++ foot)) })
unfolding ending
ends_with s front foot count rows bits at e small read =
    let whole = front ++ foot in
    let four = num_bytes 4 (length foot) in
    let long : length whole ≡ length front + length foot = length-append front foot in
    let all : length s ≡ length whole + 4 = ap length e ∙ length-append whole four ∙ ap (λ (n : ℕ). length whole + n) (length-num_bytes 4 (length foot)) in
    let end : length s - 4 ≡ length whole = omega arith in
    let told : bytes_num (drop (length whole) s) ≡ length foot = rw (e, drop-append_seam whole four) (bytes_num-num_bytes 4 (length foot) (omega arith)) in
    let cut : take (length whole) s ≡ whole = rw e (take_at whole four (length whole) refl) in
    let from : length whole - length foot ≡ length front = omega arith in
    rw (end, told, cut, from, read)

-- a row whose block stands in the table reads as the multiple that line and packed number make
block_value : (h : Head) (at size : ℕ) (t : List Block) (s : List ℕ) (r : ℕ) (l : Line) (w start multiple : ℕ) → block_at t (r / 512) ≡ record { line = l; bits = w; start = start }
    → mod_add (line_at l (r % 512)) (unpack w (drop (at + start) s) (r % 512)) ≡ multiple → multiple ≤ h.count
    → value_in Blockwise (column_of h at size Blockwise) (block_at t (r / 512)) r (packed_of (column_of h at size Blockwise) (block_at t (r / 512)) s r) ≡ value (h.minimum + h.gcd * multiple)
unfolding place_in packed_of value_in
block_value h at size t s r l w start multiple b makes within =
    rw (b, makes, le-leb multiple h.count within)

-- ---- a list's column

module _ (vs : List ℕ) where
  -- the multiples, their blocks, the blocks' areas and entries
  abbrev ns : List ℕ
  ns = multiples vs

  abbrev pub parts : List (List ℕ)
  parts = blocks ns

  abbrev pub area : List ℕ
  area = joined block_area parts

  abbrev foot : List ℕ
  foot = footer parts

  -- the column's bytes, and what they open to
  abbrev column : List ℕ
  column = 2 ∷ (head_bytes vs ++ (area ++ (foot ++ num_bytes 4 (length foot))))

  column_is : column_by 2 vs ≡ column
  unfolding body blockwise
  column_is = refl

  abbrev pub opens : Loaded
  opens = record { column = column_of (written_head vs) (1 + length (head_bytes vs)) (length area) Blockwise; table = table_from 0 parts; longer = None }

  blocks_many : length parts ≡ block_count (length vs)
  unfolding blocks
  blocks_many = length-blocks (block_count (length ns)) ns ∙ ap (λ (n : ℕ). block_count n) (multiples_length vs)

  -- fewer than 2^23 entries of at most 21 bytes
  foot_short : length vs < 2 ^ 32 → length foot < 2 ^ 32
  unfolding footer
  foot_short few = omega (arith, joined_most block_entry 21 entry_most parts, blocks_many)

  -- the footer is read as the table, whatever stands before it
  foot_read : (front : List ℕ) → read_blocks (block_count (length vs)) (front ++ foot) (length front) 0 (length vs) ≡ value (record { blocks = table_from 0 parts; area = length area; longer = None })
  unfolding blocks
  foot_read front =
      ap (λ (n : ℕ). read_blocks (block_count n) (front ++ foot) (length front) 0 n) (sym (multiples_length vs))
      ∙ read_blocks_lem (block_count (length ns)) ns (front ++ foot) (length front) 0 [] (drop-append_seam front foot ∙ sym (append-nil foot))
      ∙ rw (zero-add (length area))

  module _ (each : AllBelow (2 ^ 64) vs) (few : length vs < 2 ^ 32) where
    column_opens : (room : ℕ) → block_count (length vs) ≤ room → opened column room ≡ value opens
    column_opens room enough =
        let front : List ℕ = 2 ∷ (head_bytes vs ++ area) in
        let bytes : column ≡ (front ++ foot) ++ num_bytes 4 (length foot) = simp append_assoc in
        opens_with column front foot (written_head vs) room _ (begins 2 vs (area ++ (foot ++ num_bytes 4 (length foot))) (omega arith) each few)
        bytes (foot_short few) enough (foot_read front) (omega (arith, length-append (head_bytes vs) area))

    -- the areas leave nothing in their last byte
    area_clean : (k : ℕ) (more : List ℕ) → block_count (length ns) ≡ k
        → overfull (2 ∷ (head_bytes vs ++ (area ++ more))) (1 + length (head_bytes vs) + length area - 1) (last_width 0 k ns * length vs % 8) ≡ None
    unfolding last_width blocks_in
    area_clean zero more nothing =
        let bits : 0 * length vs % 8 ≡ 0 = omega arith in
        rw bits
    area_clean (suc j) more many =
        let block = block_of j ns in
        let w = block_width block in
        let rows : length ns ≡ 512 * j + length block = omega (arith, length-take 512 (drop (512 * j) ns), length-drop (512 * j) ns) in
        let bits : last_width 0 (suc j) ns * length vs % 8 ≡ w * length block % 8 =
        ap₂ (λ (x n : ℕ). x * n % 8) (last_width_lem 0 j ns) (sym (multiples_length vs)) ∙ last_bits w j (length block) (length ns) rows in
        let none_later : block_count (length ns) - j - 1 ≡ 0 = omega arith in
        let last : later_of j ns ≡ [] = ap (λ (n : ℕ). blocks_in n (drop 512 (drop (512 * j) ns))) none_later in
        let split : parts ≡ blocks_in j ns ++ (block ∷ []) = parted j ns (omega arith) ∙ ap (λ (l : List (List ℕ)). blocks_in j ns ++ (block ∷ l)) last in
        let place : (n : ℕ) → length (2 ∷ head_bytes vs) + n - 1 ≡ 1 + length (head_bytes vs) + n - 1 = λ n. omega arith in
        rw split (rw (← place (length (joined block_area (blocks_in j ns ++ (block ∷ []))))) (last_clean (2 ∷ head_bytes vs) more (blocks_in j ns) block _ bits))

    -- nothing offends sheet 2
    column_passes : strict column opens.column None ≡ value tt
    unfolding strict blocks
    column_passes =
        let front : List ℕ = 2 ∷ (head_bytes vs ++ area) in
        let k = block_count (length ns) in
        let bytes : column ≡ (front ++ foot) ++ num_bytes 4 (length foot) = simp append_assoc in
        let ahead : length front ≡ 1 + length (head_bytes vs) + length area = omega (arith, length-append (head_bytes vs) area) in
        let read : last_fields (block_count (length vs)) (front ++ foot) 0 (length front) ≡ value (last_width 0 k ns, length front + length foot) =
        ap (λ (n : ℕ). last_fields (block_count n) (front ++ foot) 0 (length front)) (sym (multiples_length vs))
        ∙ read_last k ns (front ++ foot) 0 (length front) [] (drop-append_seam front foot ∙ sym (append-nil foot)) in
        rw (ends_with column front foot (count_in vs) (length vs) _ _ bytes (foot_short few) read)
        (clean_column column opens.column _ (area_clean k (foot ++ num_bytes 4 (length foot)) refl)
        (unclaimed_none (1 + length (head_bytes vs) + length area) (length front) (omega (arith, ahead)))
        (unclaimed_none (length front + length foot) (length (front ++ foot)) (omega (arith, length-append front foot))))

    multiple_below : (r : ℕ) → r < length vs → get_or ns r 0 < 2 ^ 64
    multiple_below r h = rw (multiple_at vs r h) (lt_of_le_of_lt (multiple_within vs r h) (count_below vs each))

    -- a row in the block between others
    value_in_lem : (more : List ℕ) (before : List (List ℕ)) (block : List ℕ) (after : List (List ℕ)) (r : ℕ) → r < length vs
        → length before ≡ r / 512 → r % 512 < length block → get_or block (r % 512) 0 ≡ get_or ns r 0
        → (let col = column_of (written_head vs) (1 + length (head_bytes vs)) (length (joined block_area (before ++ (block ∷ after)))) Blockwise in
        let table = table_from 0 (before ++ (block ∷ after)) in
        value_in Blockwise col (block_at table (r / 512)) r (packed_of col (block_at table (r / 512)) (2 ∷ (head_bytes vs ++ (joined block_area (before ++ (block ∷ after)) ++ more))) r) ≡ reads_as vs r)
    value_in_lem more before block after r h place inside row =
        let head = head_bytes vs in
        let areas = joined block_area (before ++ (block ∷ after)) in
        let start = length (joined block_area before) in
        let bytes : List ℕ = 2 ∷ (head ++ (areas ++ more)) in
        let at : 1 + length head + start ≡ length (2 ∷ head) + start = omega arith in
        let here : drop (1 + length head + start) bytes ≡ block_area block ++ (joined block_area after ++ more) =
        ap (λ (n : ℕ). drop n bytes) at ∙ area_block before block after (2 ∷ head) more in
        let back = block_back block (joined block_area after ++ more) (r % 512) inside (rw row (multiple_below r h)) in
        block_value (written_head vs) (1 + length head) (length areas) (table_from 0 (before ++ (block ∷ after))) bytes r (trained block) (block_width block) start _
        (table_block before block after (r / 512) place) (rw here (back ∙ row ∙ multiple_at vs r h)) (multiple_within vs r h)
        ∙ ap value (multiple_back vs r h)

    value_back : (r : ℕ) → r < length vs → value_in Blockwise opens.column (block_at opens.table (r / 512)) r (packed_of opens.column (block_at opens.table (r / 512)) column r) ≡ reads_as vs r
    value_back r h =
        let k = r / 512 in
        let inside : r < length ns = rw (multiples_length vs) h in
        rw (parted k ns (omega arith))
        (value_in_lem _ (blocks_in k ns) (block_of k ns) (later_of k ns) r h
        (length-blocks k ns) (row_inside_block ns r inside) (row_of_block ns r))

-- ---- the laws

-- what was written opens to the list's column
pub blockwise_opens : (vs : List ℕ) (room : ℕ) → AllBelow (2 ^ 64) vs → length vs < 2 ^ 32 → block_count (length vs) ≤ room → opened (column_by 2 vs) room ≡ value (opens vs)
blockwise_opens vs room each few enough = rw (column_is vs) (column_opens vs each few room enough)

-- and the table has for each block the line trained on it, its width, and where the areas before it end (64 · width each, by Laid.block_starts)
pub blockwise_table : (vs : List ℕ) (k : ℕ) → k < block_count (length vs)
    → block_at (opens vs).table k ≡ block_for (length (joined block_area (blocks_in k (multiples vs)))) (block_of k (multiples vs))
blockwise_table vs k h =
    let ns = multiples vs in
    let same = multiples_length vs in
    rw (parted k ns (rw same h)) (table_block (blocks_in k ns) (block_of k ns) (later_of k ns) k (length-blocks k ns))

pub blockwise_round : RoundTrips 2
blockwise_round vs each few applies = record {
  loaded = opens vs;
  opens = λ room enough. blockwise_opens vs room each few enough;
  count = refl;
  shortest = refl;
  passes = rw (column_is vs) (column_passes vs each few);
  values = λ r h. rw (column_is vs) (value_back vs each few r h);
}
