-- How the rows of an opened column lie: legal widths, inside the area, one after another. One statement for the three codecs.
--     first_bit, end_bit, RowsLaid, HeadLaid, Laid                    where the rows of a codec lie; bounds, area and table of an opened column
--     bitpacked_laid, linear_laid, blockwise_laid, opened_laid      what opens is laid so
--     laid_in                                                       so is every window in it
--     opened-whole                                                  opening sets the whole column
--     block_starts                                                  in a Blockwise column, block b starts at the sum of 64 · width over the blocks before it
-- Assumes nothing.
use Prim.Native.Nat.{ℕ, ◌+◌, ◌*◌, ◌/◌, ◌%◌, ◌^◌, ◌≤◌, ◌<◌}
use mathlib.Core.Path.{◌≡◌, refl, ◌∙◌}
use mathlib.Core.Bool.{true}
use mathlib.Core.Logic.{⊎_elim}
use mathlib.Core.List.{List, []}
use native.Mathlib.Omega.{arith}
use lib.ListN.{length, take}
use borrow.Author.Tests.{lt-ltb}
use Rattle.format.specs.declared.Block.{Block}
use Rattle.format.specs.declared.Codec.{Codec}
use Rattle.format.specs.declared.Codec.TheVariants.{Bitpacked, Linear, Blockwise}
use Rattle.format.specs.declared.Column.{Column}
use Rattle.format.specs.declared.Window.{Window}
use Rattle.format.specs.declared.Place.{Place}
use Rattle.format.specs.declared.Fields.{Fields}
use Rattle.format.specs.declared.Head.{Head}
use Rattle.format.specs.Outcome.{Outcome.value}
use Rattle.format.specs.Word.{bytes_for}
use Rattle.format.specs.Packing.{width, legal}
use Rattle.format.specs.Bodies.{block_count}
use Rattle.format.specs.Opening.{column_of, Loaded, Table, opened}
use Rattle.format.specs.Reading.{place_in, has_block, block_at}
use Rattle.format.specs.Windows.{in_window, whole}
use Rattle.format.specs.Demands.{LiesIn}
use Rattle.format.proofs.Lists.{below_or}
use Rattle.format.proofs.Packing.{row_inside, row_before}
use Rattle.format.proofs.Widths.{width-legal}
use Rattle.format.proofs.LineFields.{fields_read}
use Rattle.format.proofs.Heads.{HeadRead, head_read}
use Rattle.format.proofs.Tables.{rows_in, end_at, BlocksRead, blocks_read, blocks_lawful, blocks_start, widths_before, blocks_order, blocks_inside}
use Rattle.format.proofs.Openings.{OpensBitpacked, OpensLinear, OpensBlockwise, bitpacked_of, linear_of, blockwise_of, footer_end, footer_start, by_opening}

-- a row's bits, counted from the area's first: the first of them, and the one behind the last
abbrev pub first_bit : Place → ℕ
first_bit p = 8 * p.start + p.row * p.bits

abbrev pub end_bit : Place → ℕ
end_bit p = 8 * p.start + (p.row + 1) * p.bits

-- the rows of a codec lie in an area of so many bytes: each has its block and a legal width, ends inside, and behind it come the later ones
pub record RowsLaid (codec : Codec) (count rows size : ℕ) (table : List Block) : Type 0 where
  pub present : (r : ℕ) → r < rows → has_block codec (length table) r ≡ true
  pub lawful : (r : ℕ) → r < rows → legal (place_in codec count (block_at table (r / 512)) r).bits ≡ true
  pub inside : (r : ℕ) → r < rows → end_bit (place_in codec count (block_at table (r / 512)) r) ≤ 8 * size
  pub order : (q r : ℕ) → q < r → r < rows → end_bit (place_in codec count (block_at table (q / 512)) q) ≤ first_bit (place_in codec count (block_at table (r / 512)) r)

-- the head's numbers in an opened column
pub record HeadLaid (col : Column) : Type 0 where
  pub minimum : col.minimum < 2 ^ 64
  pub gcd : col.gcd < 2 ^ 64
  pub count : col.count < 2 ^ 64
  pub step : 0 < col.gcd
  pub bounds : col.minimum + col.count * col.gcd < 2 ^ 64
  pub few : col.rows < 2 ^ 32

-- an opened column, in bytes of a length, with a table of at most so many blocks
pub record Laid (long room : ℕ) (o : Loaded) : Type 0 where
  pub head : HeadLaid o.column
  pub start : 1 < o.column.start
  pub area : o.column.start + o.column.size ≤ long
  pub table : length o.table ≤ room
  pub rows : RowsLaid o.column.codec o.column.count o.column.rows o.column.size o.table
  pub window : LiesIn o.column.window o

-- ---- one run of numbers of w bits

pub bitpacked_laid : (count rows : ℕ) → RowsLaid Bitpacked count rows (bytes_for (width count * rows)) []
unfolding place_in
bitpacked_laid count rows = record {
  present = λ (r : ℕ) (h : r < rows). refl;
  lawful = λ (r : ℕ) (h : r < rows). width-legal count;
  inside = λ (r : ℕ) (h : r < rows). omega (arith, row_inside rows (width count) r h);
  order = λ (q r : ℕ) (h : q < r) (k : r < rows). omega (arith, row_before (width count) q r h);
}

pub linear_laid : (count rows : ℕ) (f : Fields) → legal f.bits ≡ true → RowsLaid (Linear f.line f.bits) count rows (bytes_for (f.bits * rows)) []
unfolding place_in
linear_laid count rows f lawful = record {
  present = λ (r : ℕ) (h : r < rows). refl;
  lawful = λ (r : ℕ) (h : r < rows). lawful;
  inside = λ (r : ℕ) (h : r < rows). omega (arith, row_inside rows f.bits r h);
  order = λ (q r : ℕ) (h : q < r) (k : r < rows). omega (arith, row_before f.bits q r h);
}

-- ---- blocks

-- a row's block is there, and the row is one of its rows
row_block : (rows r : ℕ) → r < rows → r / 512 < block_count rows
row_block rows r h = omega arith

row_within : (rows r : ℕ) → r < rows → r % 512 < rows_in rows (r / 512)
row_within rows r h = omega arith

module _ {s : List ℕ} {at rows : ℕ} {t : Table} (b : BlocksRead (block_count rows) s at 0 rows t) where
  -- a row's bits end inside its block
  row_in_block : (r : ℕ) → r < rows → 8 * (block_at t.blocks (r / 512)).start + (r % 512 + 1) * (block_at t.blocks (r / 512)).bits ≤ 8 * end_at rows t.blocks (r / 512)
  row_in_block r h = omega (arith, row_inside (rows_in rows (r / 512)) (block_at t.blocks (r / 512)).bits (r % 512) (row_within rows r h))

  pub blockwise_laid : (count : ℕ) → RowsLaid Blockwise count rows t.area t.blocks
  unfolding place_in
  blockwise_laid count = record {
    present = λ (r : ℕ) (h : r < rows). lt-ltb (r / 512) (length t.blocks) (omega (arith, b.long, row_block rows r h));
    lawful = λ (r : ℕ) (h : r < rows). blocks_lawful b (r / 512) (row_block rows r h);
    inside = λ (r : ℕ) (h : r < rows). omega (arith, row_in_block r h, blocks_inside b (r / 512) (row_block rows r h));
    order = λ (q r : ℕ) (h : q < r) (k : r < rows).
        ⊎_elim
        (λ (apart : q / 512 < r / 512). omega (arith, row_in_block q (omega arith), blocks_order b (q / 512) (r / 512) apart (row_block rows r k)))
        (λ (late : r / 512 ≤ q / 512).
        let same : q / 512 ≡ r / 512 = omega arith in
        rw same (omega (arith, row_before (block_at t.blocks (r / 512)).bits (q % 512) (r % 512) (omega arith))))
        (below_or (q / 512) (r / 512));
  }

-- ---- what opens is laid so

-- a head that was read, in a column that has its numbers
head_laid : {s : List ℕ} {h : Head} → HeadRead s h → (start size : ℕ) (codec : Codec) → HeadLaid (column_of h start size codec)
head_laid r start size codec = record { minimum = r.minimum; gcd = r.gcd; count = r.count; step = r.step; bounds = r.bounds; few = r.few }

pub opened_laid : (s : List ℕ) (room : ℕ) (o : Loaded) → opened s room ≡ value o → Laid (length s) room o
opened_laid s room = by_opening (λ (o : Loaded). Laid (length s) room o) s room of_bitpacked of_linear of_blockwise
  where
    of_bitpacked : (h : Head) → OpensBitpacked s h → Laid (length s) room (bitpacked_of h)
    of_bitpacked h f =
        let head = head_read s h f.begun.head in
        record { head = head_laid head _ _ _; start = head.some; area = f.area; table = omega arith; rows = bitpacked_laid h.count h.rows; window = omega arith }

    of_linear : (h : Head) (g : Fields) → OpensLinear s h g → Laid (length s) room (linear_of h g)
    of_linear h g f =
        let head = head_read s h f.begun.head in
        let line = fields_read s h.next g f.fields in
        record {
          head = head_laid head _ _ _;
          start = omega (arith, head.some, line.some);
          area = f.area;
          table = omega arith;
          rows = linear_laid h.count h.rows g line.lawful;
          window = omega arith;
        }

    of_blockwise : (h : Head) (t : Table) → OpensBlockwise s h room t → Laid (length s) room (blockwise_of h t)
    of_blockwise h t f =
        let head = head_read s h f.begun.head in
        let blocks = blocks_read (block_count h.rows) (take (footer_end s) s) (footer_start s) 0 h.rows t f.blocks in
        record {
          head = head_laid head _ _ _;
          start = head.some;
          area = omega (arith, f.area);
          table = omega (arith, blocks.long, f.enough);
          rows = blockwise_laid blocks h.count;
          window = omega arith;
        }

-- so is every window in it
pub laid_in : {long room : ℕ} {o : Loaded} → Laid long room o → (w : Window) → LiesIn w o → Laid long room (in_window o w)
laid_in laid w h = record {
  head = record {
    minimum = laid.head.minimum;
    gcd = laid.head.gcd;
    count = laid.head.count;
    step = laid.head.step;
    bounds = laid.head.bounds;
    few = laid.head.few;
  };
  start = laid.start;
  area = laid.area;
  table = laid.table;
  rows = laid.rows;
  window = h;
}

-- opening sets the whole column
pub opened-whole : (s : List ℕ) (room : ℕ) (o : Loaded) → opened s room ≡ value o → in_window o (whole o) ≡ o
opened-whole s room =
    by_opening (λ (o : Loaded). in_window o (whole o) ≡ o) s room
    (λ (h : Head) (f : OpensBitpacked s h). refl)
    (λ (h : Head) (g : Fields) (f : OpensLinear s h g). refl)
    (λ (h : Head) (t : Table) (f : OpensBlockwise s h room t). refl)

-- in a Blockwise column, block b starts at the sum of 64 · width over the blocks before it
pub block_starts : (s : List ℕ) (room : ℕ) (o : Loaded) → opened s room ≡ value o → o.column.codec ≡ Blockwise
    → (b : ℕ) → b < block_count o.column.rows → (block_at o.table b).start ≡ 64 * widths_before o.table b
block_starts s room =
    by_opening (λ (o : Loaded). o.column.codec ≡ Blockwise → (b : ℕ) → b < block_count o.column.rows → (block_at o.table b).start ≡ 64 * widths_before o.table b) s room
    (λ (h : Head) (f : OpensBitpacked s h) (e : Bitpacked ≡ Blockwise). absurd (let z : ◌≡◌ {A = ℕ} 0 1 = cc in omega arith))
    (λ (h : Head) (g : Fields) (f : OpensLinear s h g) (e : Linear g.line g.bits ≡ Blockwise). absurd (let z : ◌≡◌ {A = ℕ} 0 1 = cc in omega arith))
    (λ (h : Head) (t : Table) (f : OpensBlockwise s h room t) (e : Blockwise ≡ Blockwise) (b : ℕ) (k : b < block_count h.rows).
    blocks_start (blocks_read (block_count h.rows) (take (footer_end s) s) (footer_start s) 0 h.rows t f.blocks) b k ∙ omega arith)
