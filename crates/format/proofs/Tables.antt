-- What a block table that was read says: legal widths, and each block's bytes from the end of the one before.
--     rows_in, end_at                                     the rows of a block, and the byte behind its last
--     EntryRead, BlocksRead, blocks_read                a block's fields; each block starts where the one before ends
--     blocks_lawful, blocks_order, blocks_inside        legal widths, and where blocks lie
--     widths_before, blocks_start                        a block starts at the sum of 64 · width over the blocks before it
-- Assumes nothing.
use Rattle.std.specs.Prelude.{None}
use Prim.Native.Nat.{ℕ, zero, suc, ◌+◌, ◌-◌, ◌*◌, ◌≤◌, ◌<◌, min}
use mathlib.Core.Path.{◌≡◌, refl, sym, ap, ◌∙◌, subst}
use mathlib.Core.Bool.{true}
use mathlib.Core.Logic.{⊎_elim}
use mathlib.Core.List.{List, []}
use native.Mathlib.Omega.{arith}
use lib.ListN.{length}
use Rattle.format.specs.declared.Block.{Block}
use Rattle.format.specs.declared.Fields.{Fields}
use Rattle.format.specs.Outcome.{Outcome.value}
use Rattle.format.specs.Word.{bytes_for}
use Rattle.format.specs.Packing.{legal}
use Rattle.format.specs.Bodies.{block_count}
use Rattle.format.specs.Opening.{Table, block_before, read_fields, read_blocks}
use Rattle.format.specs.Reading.{block_at}
use Rattle.format.proofs.Lists.{below_or}
use Rattle.format.proofs.Outcomes.{value_same, by_step}
use Rattle.format.proofs.LineFields.{FieldsRead, fields_read}

-- ---- the rows and bytes of block b

-- the rows of block b, of so many in all blocks
abbrev pub rows_in : ℕ → ℕ → ℕ
rows_in rows b = min (rows - 512 * b) 512

-- the byte behind a block's last
abbrev pub end_at : ℕ → List Block → ℕ → ℕ
end_at rows t b = (block_at t b).start + bytes_for ((block_at t b).bits * rows_in rows b)

-- a block behind one more ends where it ended before that
end_later : (f : Fields) (start : ℕ) (t : Table) (b rows : ℕ) → end_at rows (block_before f start t).blocks (suc b) ≡ end_at (rows - 512) t.blocks b
end_later f start t b rows =
    let same : rows_in rows (suc b) ≡ rows_in (rows - 512) b = omega arith in
    ap (λ (n : ℕ). (block_at t.blocks b).start + bytes_for ((block_at t.blocks b).bits * n)) same

-- ---- a table that was read

-- block b's line and width are fields that were read at some offset from `at` on
pub record EntryRead (s : List ℕ) (at : ℕ) (blocks : List Block) (b : ℕ) : Type 0 where
  pub offset : ℕ
  pub late : at ≤ offset
  pub fields : Fields
  pub read : FieldsRead s offset fields
  pub line : (block_at blocks b).line ≡ fields.line
  pub bits : (block_at blocks b).bits ≡ fields.bits

-- k blocks of so many rows: their bytes follow one another from `start` to the table's area
pub record BlocksRead (k : ℕ) (s : List ℕ) (at start rows : ℕ) (t : Table) : Type 0 where
  pub long : length t.blocks ≡ k
  pub entry : (b : ℕ) → b < k → EntryRead s at t.blocks b
  pub none : k ≡ 0 → start ≡ t.area
  pub first : 0 < k → (block_at t.blocks 0).start ≡ start
  pub next : (b : ℕ) → suc b < k → (block_at t.blocks (suc b)).start ≡ end_at rows t.blocks b
  pub last : (b : ℕ) → suc b ≡ k → end_at rows t.blocks b ≡ t.area

-- no blocks
blocks_none : (s : List ℕ) (at start rows : ℕ) → BlocksRead 0 s at start rows (record { blocks = []; area = start; longer = None })
blocks_none s at start rows = record {
  long = refl;
  entry = λ (b : ℕ) (h : b < 0). absurd (omega arith);
  none = λ e. refl;
  first = λ (h : 0 < 0). absurd (omega arith);
  next = λ (b : ℕ) (h : suc b < 0). absurd (omega arith);
  last = λ (b : ℕ) (e : suc b ≡ 0). absurd (omega arith);
}

-- a block before others
module _ (k : ℕ) (s : List ℕ) (at start rows : ℕ) (f : Fields) (t : Table) (here : FieldsRead s at f)
    (rest : BlocksRead k s f.next (start + bytes_for (f.bits * min rows 512)) (rows - 512) t) where
  full : rows_in rows 0 ≡ min rows 512
  full = omega arith

  end_first : end_at rows (block_before f start t).blocks 0 ≡ start + bytes_for (f.bits * min rows 512)
  end_first = ap (λ (n : ℕ). start + bytes_for (f.bits * n)) full

  more_entry : (b : ℕ) → b < suc k → EntryRead s at (block_before f start t).blocks b
  more_entry zero h = record { offset = at; late = omega arith; fields = f; read = here; line = refl; bits = refl }
  more_entry (suc b) h =
      let e = rest.entry b (omega arith) in
      record {
        offset = e.offset;
        late = omega (arith, here.some, e.late);
        fields = e.fields;
        read = e.read;
        line = e.line;
        bits = e.bits;
      }

  more_next : (b : ℕ) → suc b < suc k → (block_at (block_before f start t).blocks (suc b)).start ≡ end_at rows (block_before f start t).blocks b
  more_next zero h = rest.first (omega arith) ∙ sym end_first
  more_next (suc b) h = rest.next b (omega arith) ∙ sym (end_later f start t b rows)

  more_last : (b : ℕ) → suc b ≡ suc k → end_at rows (block_before f start t).blocks b ≡ t.area
  more_last zero e = end_first ∙ rest.none (omega arith)
  more_last (suc b) e = end_later f start t b rows ∙ rest.last b (omega arith)

  blocks_more : BlocksRead (suc k) s at start rows (block_before f start t)
  blocks_more = record {
    long = omega (arith, rest.long);
    entry = more_entry;
    none = λ (e : suc k ≡ 0). absurd (omega arith);
    first = λ (h : 0 < suc k). refl;
    next = more_next;
    last = more_last;
  }

-- a table that was read has these facts
pub blocks_read : (k : ℕ) (s : List ℕ) (at start rows : ℕ) (t : Table) → read_blocks k s at start rows ≡ value t → BlocksRead k s at start rows t
unfolding read_blocks
blocks_read zero s at start rows t e = subst (λ (u : Table). BlocksRead 0 s at start rows u) (value_same e) (blocks_none s at start rows)
blocks_read (suc k) s at start rows t e =
    by_step (read_fields s at) _ e λ f at_f e.
    by_step (read_blocks k s f.next (start + bytes_for (f.bits * min rows 512)) (rows - 512)) _ e λ u at_u e.
    subst (λ (v : Table). BlocksRead (suc k) s at start rows v) (value_same e)
    (blocks_more k s at start rows f u (fields_read s at f at_f) (blocks_read k s f.next (start + bytes_for (f.bits * min rows 512)) (rows - 512) u at_u))

-- ---- where blocks lie

module _ {k : ℕ} {s : List ℕ} {at start rows : ℕ} {t : Table} (r : BlocksRead k s at start rows t) where
  -- a block's width is legal
  pub blocks_lawful : (b : ℕ) → b < k → legal (block_at t.blocks b).bits ≡ true
  blocks_lawful b h = ap (λ (w : ℕ). legal w) (r.entry b h).bits ∙ (r.entry b h).read.lawful

  -- an earlier block ends where a later one starts, or before
  pub blocks_order : (a b : ℕ) → a < b → b < k → end_at rows t.blocks a ≤ (block_at t.blocks b).start
  blocks_order a zero h k_more = absurd (omega arith)
  blocks_order a (suc b) h k_more =
      ⊎_elim
      (λ (early : a < b). omega (arith, blocks_order a b early (omega arith), r.next b k_more))
      (λ (late : b ≤ a).
      let same : a ≡ b = omega arith in
      rw same (omega (arith, r.next b k_more)))
      (below_or a b)

  -- each block ends inside the area
  pub blocks_inside : (b : ℕ) → b < k → end_at rows t.blocks b ≤ t.area
  blocks_inside b h =
      ⊎_elim
      (λ (early : suc b < k).
      let m = k - 1 in
      let end : end_at rows t.blocks m ≡ t.area = r.last m (omega arith) in
      omega (arith, end, blocks_order b m (omega arith) (omega arith)))
      (λ (late : k ≤ suc b). omega (arith, r.last b (omega arith)))
      (below_or (suc b) k)

-- ---- block starts as sums

-- the widths of the first b blocks, added up
unfoldable pub widths_before : List Block → ℕ → ℕ
widths_before t zero = 0
widths_before t (suc b) = widths_before t b + (block_at t b).bits

-- a block that is not the last has 512 rows, which fill 64 bytes a bit of width
full_block : (rows b w : ℕ) → suc b < block_count rows → bytes_for (w * rows_in rows b) ≡ 64 * w
full_block rows b w h =
    let full : rows_in rows b ≡ 512 = omega arith in
    rw full (omega arith)

-- block b starts at 64 times the widths before it
pub blocks_start : {s : List ℕ} {at start rows : ℕ} {t : Table} → BlocksRead (block_count rows) s at start rows t
    → (b : ℕ) → b < block_count rows → (block_at t.blocks b).start ≡ start + 64 * widths_before t.blocks b
unfolding widths_before
blocks_start {s} {at} {start} {rows} {t} r zero h = r.first h ∙ omega arith
blocks_start {s} {at} {start} {rows} {t} r (suc b) h =
    let ih = blocks_start r b (omega arith) in
    omega (arith, ih, r.next b h, full_block rows b (block_at t.blocks b).bits h)
