-- `take` meets its contract: no row, or the chunk, which is as long as the buffer's front.
-- Assumes nothing.
use Prim.Native.Nat.{◌-◌}
use mathlib.Core.Path.{◌≡◌, refl, sym, ◌∙◌}
use native.Mathlib.Omega.{arith}
use Rattle.format.specs.Reading.{column_row}
use Rattle.format.proofs.Lists.{front_length}
use Rattle.read_row.specs.Chunks.{chunk_size}
use Rattle.read_chunk.proofs.Chunks.{front_chunk}
use Rattle.read_row.proofs.Moving.{chunk-moved}
use Rattle.read_chunk.proofs.Stretches.{storing_starts, storing_whole, stretch_for}
use Rattle.read_chunk.proofs.taking.take.Goals as goal

pub returns-then-column-first : goal.returns-then-column-first
returns-then-column-first c = storing_whole _ (storing_starts _ _ _ _) (omega (arith, c.if-column-first.true))

pub slice_bounds-take_through-end : goal.slice_bounds-take_through-end
slice_bounds-take_through-end c = sym (front_length _ _ refl (omega (arith, c.chunk_size-size.ensures)))

pub take_through-requires : goal.take_through-requires
take_through-requires c =
    let size : c.chunk_size-size.result ≡ chunk_size (column_row c.args.column c.args.first) (c.args.column.window.rows - c.args.first) = c.chunk_size-size.ensures ∙ chunk-moved _ _ _ c.column_row-at.ensures in
    front_chunk c.args.column _ _ _ _ refl c.if-column-first.false size (omega arith)

pub returns : goal.returns
returns c =
    let size : c.chunk_size-size.result ≡ chunk_size (column_row c.args.column c.args.first) (c.args.column.window.rows - c.args.first) = c.chunk_size-size.ensures ∙ chunk-moved _ _ _ c.column_row-at.ensures in
    stretch_for (front_length _ _ refl (omega (arith, c.chunk_size-size.ensures)) ∙ size) c.take_through.ensures
