-- `fill_lines` meets its contract. The invariant is `Filling`, with what the values at hand hold and how many rows were written.
-- Assumes nothing.
use native.Mathlib.Omega.{arith}
use Rattle.text.proofs.Chunks.{chunk_none, chunk_full}
use Rattle.text.proofs.Filling.{filling_more, filling_answer, filling_list}
use Rattle.text_column.specs.Holding.{HoldsAt}
use Rattle.text.proofs.Texts.{counts}
use Rattle.text_list.proofs.RowLines.{line_wrote}
use Rattle.text_list.proofs.fill_lines.Goals as goal
use Rattle.text_list.proofs.fill_lines.Goals.{else-held-r, then-held-r}

pub loop-r-preserved : goal.loop-r-preserved
loop-r-preserved c =
    let held : HoldsAt c.args.bytes.now c.args.own.column c.loop-r.r c.if-held-r.held c.if-held-r.values =
    elim c.if-held-r.branch [ then-held-r w ↦ rw (w.values-is, w.held-is) w.hold-held.ensures | else-held-r w ↦ let f = c.loop-r.invariant in rw (w.values-is, w.held-is) (record { holds = f.1; from = f.2; at = λ _. w.if-held-r.false }) ] in
    (filling_more c.loop-r.invariant.0 (omega arith) (omega arith) (line_wrote _ _ c.answer-answer.ensures c.put_row.ensures.wrote) c.put_row.ensures.upper_bound, held.holds, omega (arith, held.from), omega (arith, c.loop-r.invariant.3))

pub returns-then-out-filled-lt-LINE_MAX : goal.returns-then-out-filled-lt-LINE_MAX
returns-then-out-filled-lt-LINE_MAX c =
    let f = c.loop-r.invariant.0 in
    (filling_answer f (chunk_full _ _ _ _ _ (omega arith)) c.loop-r.invariant.3, (filling_list f (chunk_full _ _ _ _ _ (omega arith)), counts _ _ (omega arith)))

pub returns-after-loop-r : goal.returns-after-loop-r
returns-after-loop-r c =
    let f = c.loop-r.invariant.0 in
    let none = chunk_none _ _ _ _ _ c.loop-r-test.false in
    (filling_answer f none c.loop-r.invariant.3, (filling_list f none, counts _ _ (omega arith)))
