-- `read_lookup::sweeping::sweep_rows` meets its contract, by the invariant `Gathered`. A sweep that stops for want of room is found to be one without a line here.
-- Assumes nothing.
use Prim.Native.Nat.{ℕ, ◌-◌, ◌≤◌, ◌<◌}
use mathlib.Core.Path.{◌≡◌, refl, ◌∙◌}
use native.Mathlib.Omega.{arith}
use Rattle.format.specs.declared.Column.{Column}
use Rattle.format.specs.Reading.{column_row}
use Rattle.read_row.specs.Chunks.{Chunk, chunk_size}
use Rattle.read_row.proofs.Moving.{chunk-moved}
use Rattle.read_lookup.proofs.Sweeps.{none_yet, few_gathered, more_gathered, refused_later, swept_to, swept_refused}
use Rattle.read_lookup.proofs.sweeping.sweep_rows.Goals as goal

-- a chunk of the window
chunked : (col : Column) (at end size : ℕ) → size ≡ chunk_size (column_row col at) (end - at) → at < end → end ≤ col.window.rows → Chunk col.window.rows col.window.first at size
chunked col at end size is some inside = record { some = omega arith; inside = omega arith; one = omega arith }

pub loop-at-init : goal.loop-at-init
loop-at-init c = (none_yet _ _ _ _, omega arith, omega (arith, c.requires.0), refl, omega arith)

pub loop-at-preserved : goal.loop-at-preserved
loop-at-preserved c =
    let f = c.loop-at.invariant in
    let g = swept_to _ _ c.sweep_there.ensures c.in-Ok.is in
    let chunk : c.chunk_size-size.result ≡ chunk_size (column_row c.args.column c.loop-at.at) (c.args.end - c.loop-at.at) = c.chunk_size-size.ensures ∙ chunk-moved _ _ _ c.column_row-row.ensures in (
      more_gathered _ _ f.0 f.1 _ _ _ (omega (arith, g.0)) g.2,
      omega (arith, f.1, g.0),
      omega (arith, g.1, chunk, c.loop-at-test.true),
      omega (arith, c.sweep_there.auto.list, f.3),
      omega (arith, f.4, g.0, few_gathered _ _ g.2),
    )

pub returns-in-Err : goal.returns-in-Err
returns-in-Err c =
    let f = c.loop-at.invariant in
    let chunk : c.chunk_size-size.result ≡ chunk_size (column_row c.args.column c.loop-at.at) (c.args.end - c.loop-at.at) = c.chunk_size-size.ensures ∙ chunk-moved _ _ _ c.column_row-row.ensures in
    refused_later _ _ f.0 f.1 _ _ _ (omega (arith, chunk, c.loop-at-test.true)) (swept_refused _ _ c.sweep_there.ensures c.in-Err.is) _
