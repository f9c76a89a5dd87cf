-- The blocks of an opened column, by a pass over its footer.
--     Footer, opened-footer     they were checked, and are the table's, as many as the rows have
--     pass_block                the pass at the block of a row has the table's block at hand
--     few_blocked, passing_at   fewer than 2^32 rows have blocks; a pass over checked ones, so many on
-- Assumes nothing.
use Rattle.std.specs.Prelude.{None}
use Prim.Native.Nat.{ℕ, suc, ◌+◌, ◌/◌, ◌^◌, ◌≤◌, ◌<◌, min}
use mathlib.Core.Path.{◌≡◌, refl, sym, ap, ◌∙◌}
use mathlib.Core.List.{List, []}
use native.Mathlib.Omega.{arith}
use lib.ListN.{length}
use Rattle.format.specs.declared.Codec.{Codec}
use Rattle.format.specs.declared.Codec.TheVariants.{Bitpacked, Linear, Blockwise}
use Rattle.format.specs.declared.Fields.{Fields}
use Rattle.format.specs.declared.Head.{Head}
use Rattle.format.specs.Bodies.{block_count}
use Rattle.format.specs.Opening.{Loaded, Table, read_blocks, opened}
use Rattle.format.specs.Outcome.{Outcome.value}
use Rattle.format.specs.Reading.{block_at}
use Rattle.format.proofs.Openings.{OpensBitpacked, OpensLinear, OpensBlockwise, by_opening}
use Rattle.format.proofs.Tables.{blocks_read}
use Rattle.blockwise_linear.specs.Passing.{passed, Passing}
use Rattle.blockwise_linear.specs.Reader.{first_cursor, blocks_from, Good}
use Rattle.blockwise_linear.proofs.Stops.{stop, stop_block}
use Rattle.open_column.specs.Opening.{blocked}

-- the blocks of what opening found: they were checked, and there are as many as the table has
pub record Footer (s : List ℕ) (o : Loaded) : Type 0 where
  pub checked : Good (blocks_from s (first_cursor s (blocked o.column.codec o.column.rows)))
  pub count : block_count (blocked o.column.codec o.column.rows) ≡ length o.table

-- without blocks, there is none at hand
no_blocks : (s : List ℕ) → Good (blocks_from s (first_cursor s 0))
unfolding read_blocks
no_blocks s = record { found = record { blocks = []; area = 0; longer = None }; is = refl }

no_block : (s : List ℕ) (k i : ℕ) → k ≡ 0 → (passed s 0 k).block ≡ block_at [] i
unfolding passed
no_block s k i e = rw e

pub opened-footer : (s : List ℕ) (room : ℕ) (o : Loaded) → opened s room ≡ value o → Footer s o
opened-footer s room =
    by_opening (λ (o : Loaded). Footer s o) s room
    (λ (h : Head) (f : OpensBitpacked s h). record { checked = no_blocks s; count = refl })
    (λ (h : Head) (g : Fields) (f : OpensLinear s h g). record { checked = no_blocks s; count = refl })
    (λ (h : Head) (t : Table) (f : OpensBlockwise s h room t).
    let long = (blocks_read _ _ _ _ _ t f.blocks).long in
    record { checked = record { found = t; is = f.blocks }; count = omega (arith, long) })

pub pass_block : (s : List ℕ) (room : ℕ) (o : Loaded) → opened s room ≡ value o → o.column.rows < 2 ^ 32 → (r : ℕ) → r < o.column.rows
    → (passed s (blocked o.column.codec o.column.rows) (min (r / 512 + 1) (block_count (blocked o.column.codec o.column.rows)))).block ≡ block_at o.table (r / 512)
pass_block s room =
    by_opening (λ (o : Loaded). o.column.rows < 2 ^ 32 → (r : ℕ) → r < o.column.rows
    → (passed s (blocked o.column.codec o.column.rows) (min (r / 512 + 1) (block_count (blocked o.column.codec o.column.rows)))).block ≡ block_at o.table (r / 512)) s room
    (λ (h : Head) (f : OpensBitpacked s h) few r inside. no_block s (min (r / 512 + 1) (block_count 0)) (r / 512) (omega arith))
    (λ (h : Head) (g : Fields) (f : OpensLinear s h g) few r inside. no_block s (min (r / 512 + 1) (block_count 0)) (r / 512) (omega arith))
    (λ (h : Head) (t : Table) (f : OpensBlockwise s h room t) few r inside.
    let on : min (r / 512 + 1) (block_count h.rows) ≡ suc (r / 512) = omega arith in
    ap (λ (k : ℕ). (passed s h.rows k).block) on
    ∙ stop_block (stop s h.rows few t f.blocks (r / 512) (omega arith)) (omega arith))

-- ---- a pass

pub few_blocked : (k : Codec) {rows : ℕ} → rows < 2 ^ 32 → blocked k rows < 2 ^ 32
few_blocked Bitpacked few = omega arith
few_blocked (Linear l w) few = omega arith
few_blocked Blockwise few = few

pub passing_at : {s : List ℕ} {rows : ℕ} → rows < 2 ^ 32 → Good (blocks_from s (first_cursor s rows)) → (k : ℕ) → k ≤ block_count rows → Passing s rows (passed s rows k)
passing_at {s} {rows} few checked k inside =
    let a = stop s rows few checked.found checked.is k inside in
    record { stands = ap (passed s rows) (sym a.count); inside = omega (arith, a.count) }
