-- From a column, a table and bytes that fit together at a row to what each codec asks for to read it, and from the last row of a chunk to all of it.
--     in_area, column_tested, row_tested             what the tests gave decides
--     fitting                                       what fitting together says, test by test
--     bitpacked_reads, linear_reads, blocks_read    each codec's demand
--     fitting_window                                .. and of the window
--     fits_earlier, chunk-fits, chunk_reads         what fits at a chunk's last row fits at all of its rows
-- Assumes nothing.
use Prim.Native.Nat.{ℕ, ◌+◌, ◌-◌, ◌*◌, ◌/◌, ◌%◌, ◌^◌, ◌≤◌, ◌<◌}
use mathlib.Core.Path.{◌≡◌, refl, subst}
use mathlib.Core.Bool.{Bool, true, false, ◌&&◌, ◌||◌, and-eq-true_iff}
use mathlib.Core.Logic.{◌⊎◌, inl, inr, ⊎_elim}
use mathlib.Core.List.{List}
use native.Mathlib.Nat.{mul-le-mul_right}
use native.Mathlib.Omega.{arith}
use lib.Dec.{ltb, leb, eqb}
use lib.ListN.{length}
use borrow.Author.Tests.{lt-ltb, le-leb, ltb-true, leb-true, eqb-true}
use Rattle.format.specs.declared.Block.{Block}
use Rattle.format.specs.declared.Codec.{Codec}
use Rattle.format.specs.declared.Codec.TheVariants.{Bitpacked, Linear, Blockwise}
use Rattle.format.specs.declared.Column.{Column}
use Rattle.format.specs.declared.Line.{Line}
use Rattle.format.specs.Packing.{width, legal}
use Rattle.format.specs.declared.Place.{Place}
use Rattle.format.specs.Reading.{column_row, window_fits, asked_as, place_in, place_of, has_block, column_fits, row_fits, fits, value_at, row_in}
use Rattle.format.specs.Runs.{read_run}
use Rattle.format.proofs.Runs.{run_agree}
use Rattle.bitpacked.specs.Reader.{Readable as BitpackedReadable}
use Rattle.linear.specs.Reader.{Readable as LinearReadable}
use Rattle.blockwise_rows.specs.Reader.{Readable as BlockReadable}
use Rattle.read_row.specs.Chunks.{Chunk, Fitting}

-- one of two tests held
either : (a b : Bool) → (a || b) ≡ true → (a ≡ true) ⊎ (b ≡ true)
either true b e = inl refl
either false b e = inr e

or_right : (a b : Bool) → b ≡ true → (a || b) ≡ true
or_right true b e = refl
or_right false b e = e

-- all of three tests held
all_held : (a b c : Bool) → (a && b && c) ≡ true → (a ≡ true) × (b ≡ true) × (c ≡ true)
all_held a b c h =
    let two = (and-eq-true_iff (a && b) c).0 h in
    let one = (and-eq-true_iff a b).0 two.0 in
    (one.0, one.1, two.1)

-- all of four tests held
four_held : (a b c d : Bool) → (a && b && c && d) ≡ true → (a ≡ true) × (b ≡ true) × (c ≡ true) × (d ≡ true)
four_held a b c d h =
    let e = (and-eq-true_iff (a && b && c) d).0 h in
    let f = all_held a b c e.0 in
    (f.0, f.1, f.2, e.1)

-- ---- the tests

-- whether the number of a place ends within an area, if it has bits
abbrev pub in_area : (size : ℕ) → Place → Bool
in_area size p = eqb p.bits 0 || leb (8 * p.start + (p.row + 1) * p.bits) (8 * size)

-- what the tests gave decides, in their order
pub column_tested : (col : Column) (s : List ℕ) {window step bounds area : Bool}
    → window_fits col ≡ window
    → ltb 0 col.gcd ≡ step
    → ltb (col.minimum + col.count * col.gcd) (2 ^ 64) ≡ bounds
    → leb (col.start + col.size) (length s) ≡ area
    → (window && step && bounds && area) ≡ column_fits col s
unfolding column_fits
column_tested col s window step bounds area = rw (← window, ← step, ← bounds, ← area)

pub row_tested : (col : Column) (blocks : ℕ) (b : Block) (r : ℕ) {block lawful inside : Bool}
    → has_block col.codec blocks r ≡ block
    → legal (place_of col b r).bits ≡ lawful
    → in_area col.size (place_of col b r) ≡ inside
    → (block && lawful && inside) ≡ row_fits col blocks b r
unfolding row_fits
row_tested col blocks b r block lawful inside = rw (← block, ← lawful, ← inside)

pub both_tested : (col : Column) (blocks : ℕ) (b : Block) (s : List ℕ) (r : ℕ) {column row : Bool}
    → column_fits col s ≡ column → row_fits col blocks b r ≡ row → (column && row) ≡ fits col blocks b s r
unfolding fits
both_tested col blocks b s r column row = rw (← column, ← row)

module _ (col : Column) (blocks : ℕ) (b : Block) (s : List ℕ) (r : ℕ) (fit : fits col blocks b s r ≡ true) where
  -- both parts held
  two : (column_fits col s ≡ true) × (row_fits col blocks b r ≡ true)
  unfolding fits
  two = (and-eq-true_iff (column_fits col s) (row_fits col blocks b r)).0 fit

  pub fitting : Fitting col (place_of col b r) s
  unfolding column_fits row_fits
  fitting =
      let p = place_of col b r in
      let c = four_held (window_fits col) (ltb 0 col.gcd) (ltb (col.minimum + col.count * col.gcd) (2 ^ 64)) (leb (col.start + col.size) (length s)) two.0 in
      let h = all_held (has_block col.codec blocks r) (legal p.bits) (in_area col.size p) two.1 in
      record {
        bounds = ltb-true _ _ c.2;
        lawful = h.1;
        area = leb-true _ _ c.3;
        inside =
            ⊎_elim (λ none. inl (eqb-true p.bits 0 none))
            (λ within. inr (leb-true (8 * p.start + (p.row + 1) * p.bits) (8 * col.size) within))
            (either (eqb p.bits 0) (leb (8 * p.start + (p.row + 1) * p.bits) (8 * col.size)) h.2);
      }

  -- the window lies in the column
  pub fitting_window : col.window.first + col.window.rows ≤ col.rows
  unfolding column_fits
  fitting_window =
      let c = four_held (window_fits col) (ltb 0 col.gcd) (ltb (col.minimum + col.count * col.gcd) (2 ^ 64)) (leb (col.start + col.size) (length s)) two.0 in
      leb-true (col.window.first + col.window.rows) col.rows c.0

-- ---- each codec's demand

module _ (col : Column) (b : Block) (s : List ℕ) (r : ℕ) (f : Fitting col (place_of col b r) s) where
  pub bitpacked_reads : col.codec ≡ Bitpacked → BitpackedReadable col s
  bitpacked_reads e = record { codec = e; bounds = f.bounds; start = omega (arith, f.area) }

  pub linear_reads : (l : Line) (w : ℕ) → col.codec ≡ Linear l w → LinearReadable col l w s
  unfolding place_in
  linear_reads l w e =
      record {
        codec = e;
        bounds = f.bounds;
        lawful = rw e at f.lawful;
        start = omega (arith, f.area);
      }

  pub blocks_read : col.codec ≡ Blockwise → BlockReadable col b s
  unfolding place_in
  blocks_read e =
      let g : Fitting col (place_in Blockwise col.count b r) s = subst (λ (k : Codec). Fitting col (place_in k col.count b r) s) e f in
      record {
        codec = e;
        bounds = g.bounds;
        lawful = g.lawful;
        start = ⊎_elim (λ none. inl none) (λ within. inr (omega (arith, g.area))) g.inside;
      }

-- ---- a chunk

-- where a later number of a run ends inside, an earlier one does
ends_earlier : (start i j bits size : ℕ) → i ≤ j → in_area size (record { start = start; row = j; bits = bits }) ≡ true → in_area size (record { start = start; row = i; bits = bits }) ≡ true
ends_earlier start i j bits size h e =
    ⊎_elim
    (λ (none : eqb bits 0 ≡ true). rw none)
    (λ (within : leb (8 * start + (j + 1) * bits) (8 * size) ≡ true).
    let far : 8 * start + (j + 1) * bits ≤ 8 * size = leb-true (8 * start + (j + 1) * bits) (8 * size) within in
    let less : (i + 1) * bits ≤ (j + 1) * bits = mul-le-mul_right {m = i + 1} {n = j + 1} bits (omega arith) in
    or_right (eqb bits 0) _ (le-leb (8 * start + (i + 1) * bits) (8 * size) (omega arith)))
    (either (eqb bits 0) (leb (8 * start + (j + 1) * bits) (8 * size)) e)

module _ (count blocks : ℕ) (b : Block) (size i j : ℕ) (h : i ≤ j) (same : i / 512 ≡ j / 512) where
  -- by the codec: an earlier row of the same block
  earlier : (k : Codec) → (has_block k blocks j && legal (place_in k count b j).bits && in_area size (place_in k count b j)) ≡ true
      → (has_block k blocks i && legal (place_in k count b i).bits && in_area size (place_in k count b i)) ≡ true
  unfolding place_in
  earlier Bitpacked e =
      let t = all_held true (legal (width count)) (in_area size (record { start = 0; row = j; bits = width count })) e in
      rw (t.1, ends_earlier 0 i j (width count) size h t.2)
  earlier (Linear l w) e =
      let t = all_held true (legal w) (in_area size (record { start = 0; row = j; bits = w })) e in
      rw (t.1, ends_earlier 0 i j w size h t.2)
  earlier Blockwise e =
      let t = all_held (ltb (j / 512) blocks) (legal b.bits) (in_area size (record { start = b.start; row = j % 512; bits = b.bits })) e in
      rw (same, t.0, t.1, ends_earlier b.start (i % 512) (j % 512) b.bits size (omega arith) t.2)

module _ (col : Column) (blocks : ℕ) (b : Block) (s : List ℕ) where
  -- what fits at a row fits at the earlier rows of its block
  pub fits_earlier : (i j : ℕ) → i ≤ j → i / 512 ≡ j / 512 → fits col blocks b s j ≡ true → fits col blocks b s i ≡ true
  unfolding fits row_fits
  fits_earlier i j h same e =
      let t = two col blocks b s j e in
      rw t.0 (earlier col.count blocks b col.size i j h same col.codec t.1)

  module _ (r n : ℕ) (c : Chunk col.window.rows col.window.first r n) (fit : fits col blocks b s (column_row col (r + (n - 1))) ≡ true) where
    pub chunk-fits : (x : ℕ) → r ≤ x → x < r + n → fits col blocks b s (column_row col x) ≡ true
    chunk-fits x low high = fits_earlier (column_row col x) (column_row col (r + (n - 1))) (omega (arith, c.some)) (omega (arith, c.some, c.one)) fit

    -- so a chunk reads as the values of its rows, each named as it was asked for
    pub chunk_reads : read_run (row_in col blocks b s) r n ≡ read_run (λ (x : ℕ). asked_as x (value_at col b s (column_row col x))) r n
    unfolding row_in
    chunk_reads = run_agree (row_in col blocks b s) (λ (x : ℕ). asked_as x (value_at col b s (column_row col x))) r n
        (λ x low high. rw (lt-ltb x col.window.rows (omega (arith, c.inside)), chunk-fits x low high))
