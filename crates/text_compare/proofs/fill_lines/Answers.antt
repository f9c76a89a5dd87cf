-- `fill_lines` meets its contract. The invariant is `Pairing`, with what the values at hand of both sides hold and how many rows were looked at.
-- Assumes nothing.
use Prim.Native.Nat.{◌+◌, ◌^◌, ◌<◌}
use mathlib.Core.Path.{refl}
use native.Mathlib.Omega.{arith}
use Rattle.text_column.specs.Holding.{HoldsAt}
use Rattle.text.proofs.Chunks.{chunk_none, chunk_full}
use Rattle.text_column.proofs.Holding.{holds_nothing}
use Rattle.text.proofs.Texts.{counts}
use Rattle.text_compare.proofs.Filling.{pairing_starts, pairing_few, pairing_more, pairing_answer, pairing_list}
use Rattle.text_compare.proofs.fill_lines.Goals as goal
use Rattle.text_compare.proofs.fill_lines.Goals.{else-lheld-r, else-rheld-r, then-lheld-r, then-rheld-r}

pub loop-r-init : goal.loop-r-init
loop-r-init c = (pairing_starts _ _ _ _ _, c.row_count-rows.ensures, holds_nothing _ c.requires.owned c.nothing-lheld.ensures.0 c.nothing-lheld.ensures.2 c.nothing-lheld.ensures.3 refl, holds_nothing _ c.requires.owned_2 c.nothing-rheld.ensures.0 c.nothing-rheld.ensures.2 c.nothing-rheld.ensures.3 refl, omega (arith, c.nothing-lheld.ensures.1), omega (arith, c.nothing-rheld.ensures.1), omega arith)

pub put_row-done-requires : goal.put_row-done-requires
put_row-done-requires c =
    let few : c.loop-r.r + 1 < 2 ^ 32 = omega arith in
    record { pair_max_in_bounds = omega (arith, c.if-out-done-lt-LINE_MAX.false); lines_bound = omega (arith, few, pairing_few c.loop-r.invariant.0) }

pub loop-r-preserved : goal.loop-r-preserved
loop-r-preserved c =
    let at = c.loop-r.invariant in
    let held_left : HoldsAt c.args.lbytes.now c.args.left.column c.loop-r.r c.if-lheld-r.lheld c.if-lheld-r.lvalues =
    elim c.if-lheld-r.branch [ then-lheld-r w ↦ rw (w.lvalues-is, w.lheld-is) w.hold-lheld.ensures | else-lheld-r w ↦ let f = c.loop-r.invariant in rw (w.lvalues-is, w.lheld-is) (record { holds = f.2; from = f.4; at = λ _. w.if-lheld-r.false }) ] in
    let held_right : HoldsAt c.args.rbytes.now c.args.right.column c.loop-r.r c.if-rheld-r.rheld c.if-rheld-r.rvalues =
    elim c.if-rheld-r.branch [ then-rheld-r w ↦ rw (w.rvalues-is, w.rheld-is) w.hold-rheld.ensures | else-rheld-r w ↦ let f = c.loop-r.invariant in rw (w.rvalues-is, w.rheld-is) (record { holds = f.3; from = f.5; at = λ _. w.if-rheld-r.false }) ] in (
      pairing_more at.0 (omega (arith, c.loop-r-test.true, at.1)) (omega (arith, c.if-out-done-lt-LINE_MAX.false)) c.answer-a.ensures c.answer-b.ensures
          c.put_row-done.ensures.wrote c.put_row-done.ensures.bytes_bound c.put_row-done.ensures.lines_value,
      at.1,
      held_left.holds,
      held_right.holds,
      omega (arith, held_left.from),
      omega (arith, held_right.from),
      omega (arith, at.6),
    )

pub returns-then-out-done-lt-LINE_MAX : goal.returns-then-out-done-lt-LINE_MAX
returns-then-out-done-lt-LINE_MAX c =
    let at = c.loop-r.invariant in
    let p = at.0 in
    (pairing_answer p (chunk_full _ _ _ _ _ (omega arith)) at.6, (pairing_list p (chunk_full _ _ _ _ _ (omega arith)), counts _ _ (omega (arith, p.text.room, p.text.kept))))

pub returns-after-loop-r : goal.returns-after-loop-r
returns-after-loop-r c =
    let at = c.loop-r.invariant in
    let p = at.0 in
    (pairing_answer p (chunk_none _ _ _ _ _ (omega (arith, c.loop-r-test.false, at.1))) at.6, (pairing_list p (chunk_none _ _ _ _ _ (omega (arith, c.loop-r-test.false, at.1))), counts _ _ (omega (arith, p.text.room, p.text.kept))))
