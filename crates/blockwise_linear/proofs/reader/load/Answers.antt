-- `blockwise_linear::reader::load` meets its contract: each test is one of the rule's, in its order, and the blocks count by their area alone.
-- Assumes nothing.
use Rattle.std.proofs.Common.{rules, ◌≡◌, sym, ap, ◌∙◌, arith}
use borrow.Author.Tests.{le-leb, lt-leb}
use Rattle.format.specs.Outcome.{Outcome.value}
use Rattle.format.specs.Opening.{open_blockwise, column_in}
use Rattle.format.specs.Refusals.{numbered}
use Rattle.format.specs.Bodies.{block_count}
use Rattle.blockwise_linear.specs.declared.reader.Cursor.{Cursor}
use Rattle.blockwise_linear.specs.Reader.{first_cursor, blocks_from, area_in, column_over}
use Rattle.blockwise_linear.proofs.Footers.{column_by_area}
use Rattle.blockwise_linear.proofs.reader.load.Goals as goal

pub returns-then-not-footer_fits : goal.returns-then-not-footer_fits
returns-then-not-footer_fits c = rw (column_by_area _ _ _, sym c.footer_fits.ensures ∙ c.if-not-footer_fits.true)

pub returns-then-room-blocks : goal.returns-then-room-blocks
returns-then-room-blocks c =
    rw (column_by_area _ _ _, sym c.footer_fits.ensures ∙ c.if-not-footer_fits.false, lt-leb (block_count c.args.head.rows) c.args.room (omega (arith, c.block_count-blocks.ensures)), c.block_count-blocks.ensures)

pub returns : goal.returns
returns c =
    let s = c.args.bytes.now in
    let checked : area_in (blocks_from s (first_cursor s c.args.head.rows)) ≡ value (c.in_ok-size.size, c.in_ok-size.longer) =
    ap (λ (f : Cursor). area_in (blocks_from s f)) (sym c.first-footer.ensures) ∙ sym c.in_ok-size.ensures in
    rw (column_by_area _ _ _, sym c.footer_fits.ensures ∙ c.if-not-footer_fits.false, le-leb (block_count c.args.head.rows) c.args.room (omega (arith, c.block_count-blocks.ensures)), checked)
    (c.loaded.ensures ∙ ap (λ (f : Cursor). column_over c.args.head f.at (c.in_ok-size.size, c.in_ok-size.longer)) c.first-footer.ensures)

pub returns-in_err-size : goal.returns-in_err-size
returns-in_err-size c =
    let s = c.args.bytes.now in
    let refused : column_in (open_blockwise s c.args.head c.args.room) ≡ numbered c.in_err-size.field-0.0 =
    rw (column_by_area _ _ _, sym c.footer_fits.ensures ∙ c.if-not-footer_fits.false, le-leb (block_count c.args.head.rows) c.args.room (omega (arith, c.block_count-blocks.ensures)), ap (λ (f : Cursor). area_in (blocks_from s f)) (sym c.first-footer.ensures) ∙ sym c.in_err-size.ensures) in
    search rules
