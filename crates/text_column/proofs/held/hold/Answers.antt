-- `hold` meets its contract: what the list held where the window lacks the row, or the chunk from the row on.
-- Assumes nothing.
use Prim.Native.Nat.{ℕ, ◌+◌, ◌-◌, ◌^◌, ◌<◌}
use mathlib.Core.Path.{◌≡◌, refl, ap, ◌∙◌}
use native.Mathlib.Omega.{arith}
use Rattle.format.specs.Reading.{column_row}
use Rattle.blockwise_linear.specs.declared.passing.Pass.{Pass}
use Rattle.read_row.specs.Chunks.{chunk_size}
use Rattle.text_column.specs.Own.{block_of, pass_at}
use Rattle.text_column.proofs.Holding.{holds-chunk}
use Rattle.text_column.proofs.Owns.{own_few, own_window, own_moved, own_row_block}
use Rattle.text_column.proofs.held.hold.Goals as goal

pub values-count-requires : goal.values-count-requires
values-count-requires c =
    let inside = c.if-column-row.false in
    record { at_row = record { shows = c.requires.holds.own.shows; inside = inside; block = ap (λ (p : Pass). p.block) ((let reached-here : c.pass_at-pass.result ≡ pass_at c.args.bytes.now c.args.column (block_of c.args.column c.args.row.0) = c.pass_at-pass.ensures ∙ ap (λ (k : ℕ). pass_at c.args.bytes.now c.args.column k) c.block_of-number.ensures in reached-here)) ∙ own_row_block c.requires.holds.own.shows inside }; size_value = (let long-here : c.chunk_size-size.result ≡ chunk_size (column_row c.args.column c.args.row.0) (c.args.column.window.rows - c.args.row.0) = c.chunk_size-size.ensures ∙ ap (λ (q : ℕ). chunk_size q (c.args.column.window.rows - c.args.row.0)) (c.column_row-at.ensures ∙ own_moved c.requires.holds.own.shows c.if-column-row.false) in long-here); out_len = c.requires.holds.rows.long }

pub returns : goal.returns
returns c =
    holds-chunk _ c.requires.holds.own.shows c.if-column-row.false ((let long-here : c.chunk_size-size.result ≡ chunk_size (column_row c.args.column c.args.row.0) (c.args.column.window.rows - c.args.row.0) = c.chunk_size-size.ensures ∙ ap (λ (q : ℕ). chunk_size q (c.args.column.window.rows - c.args.row.0)) (c.column_row-at.ensures ∙ own_moved c.requires.holds.own.shows c.if-column-row.false) in long-here)) ((let reached-here : c.pass_at-pass.result ≡ pass_at c.args.bytes.now c.args.column (block_of c.args.column c.args.row.0) = c.pass_at-pass.ensures ∙ ap (λ (k : ℕ). pass_at c.args.bytes.now c.args.column k) c.block_of-number.ensures in reached-here)) refl (omega (
      arith,
      (let small-here : c.args.row.0 + c.chunk_size-size.result < 2 ^ 32 = let shows = c.requires.holds.own.shows in
          omega (arith, (let long-here : c.chunk_size-size.result ≡ chunk_size (column_row c.args.column c.args.row.0) (c.args.column.window.rows - c.args.row.0) = c.chunk_size-size.ensures ∙ ap (λ (q : ℕ). chunk_size q (c.args.column.window.rows - c.args.row.0)) (c.column_row-at.ensures ∙ own_moved c.requires.holds.own.shows c.if-column-row.false) in long-here), c.if-column-row.false, own_window shows, own_few shows) in small-here),
    )) c.values-count.ensures
