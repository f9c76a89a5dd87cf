-- `put_rows` meets its contract. The invariant is `Written`: the lines of the rows so far.
-- Assumes nothing.
use Prim.Native.Nat.{◌+◌}
use mathlib.Core.Path.{◌≡◌}
use native.Mathlib.Omega.{arith}
use Rattle.text_column.specs.Own.{own_row}
use Rattle.text_blame_lines.specs.Bytes.{row_text}
use Rattle.text_blame_lines.proofs.RowTexts.{written-starts, written_more}
use Rattle.text_blame_lines.proofs.rows.put_rows.Goals as goal

pub loop-row-init : goal.loop-row-init
loop-row-init c = (written-starts _ _ _ _, omega arith, omega arith)

pub loop-row-preserved : goal.loop-row-preserved
loop-row-preserved c = (
  written_more (row_text (own_row c.args.left.column c.args.lbytes.now) (own_row c.args.right.column c.args.rbytes.now)) c.args.first c.loop-row.row
      (omega arith) c.loop-row.invariant.0 (rw (c.answer-a.ensures, c.answer-b.ensures) at c.put_row-end.ensures.wrote),
  omega (arith, c.put_row-end.ensures.upper_bound),
  omega (arith, c.put_row-end.auto.out),
)

pub returns : goal.returns
returns c =
    let all : c.loop-row.row ≡ c.args.last + 1 = omega (arith, c.loop-row-test.false) in
    record { wrote = rw all at c.loop-row.invariant.0; upper_bound = omega arith }

pub returns-2 : goal.returns-2
returns-2 c =
    let all : c.loop-row.row ≡ c.args.last = omega arith in
    let wrote = written_more (row_text (own_row c.args.left.column c.args.lbytes.now) (own_row c.args.right.column c.args.rbytes.now)) c.args.first c.loop-row.row
    (omega arith) c.loop-row.invariant.0 (rw (c.answer-a.ensures, c.answer-b.ensures) at c.put_row-end.ensures.wrote) in
    record { wrote = rw all at wrote; upper_bound = omega (arith, c.put_row-end.ensures.upper_bound) }
